use Rattle.std.proofs.Common.{◌≡◌, ◌<◌, ◌≤◌, is_some, length, sym, ap, ◌∙◌, arith}
use Rattle.stim_read.specs.Parts.{is_one_of}
use Rattle.stim_read.specs.CycleRules.{has_known_name}
use Rattle.stim_read.proofs.PlaceLemmas.{known_as}
use Rattle.stim_read.proofs.WalkLemmas.{all_goes, all_stops, all_ends}
use Rattle.stim_read.proofs.cycle_inputs.are_known.Goals as goal

pub returns-then-is_none : goal.returns-then-is_none
returns-then-is_none c =
    let names = c.args.names.now in
    let given = c.args.given.now in
    let i = c.loop-g.g-index in
    let within : i < length given = omega arith in
    let known : has_known_name names c.g-item.result ≡ is_some c.place.result = ap (is_one_of names) (sym c.bytes.ensures) ∙ known_as names c.bytes.result.now c.place.result c.place.ensures.place in
    sym (all_stops (has_known_name names) given i c.g-item.result within c.g-item.is (known ∙ c.if-is_none.ensures)) ∙ c.loop-g.invariant

pub loop-g-preserved : goal.loop-g-preserved
loop-g-preserved c =
    let names = c.args.names.now in
    let given = c.args.given.now in
    let i = c.loop-g.g-index in
    let within : i < length given = omega arith in
    let known : has_known_name names c.g-item.result ≡ is_some c.place.result = ap (is_one_of names) (sym c.bytes.ensures) ∙ known_as names c.bytes.result.now c.place.result c.place.ensures.place in
    sym (all_goes (has_known_name names) given i c.g-item.result within c.g-item.is (known ∙ c.if-is_none.ensures)) ∙ c.loop-g.invariant

pub returns : goal.returns
returns c =
    let past : length c.args.given.now ≤ c.loop-g.g-index = omega arith in
    sym (all_ends (has_known_name c.args.names.now) c.args.given.now c.loop-g.g-index past) ∙ c.loop-g.invariant
