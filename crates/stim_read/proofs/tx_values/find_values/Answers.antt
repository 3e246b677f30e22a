use Rattle.std.proofs.Common.{◌≡◌, ◌<◌, ◌≤◌, true, length, sym, ap, ◌∙◌, arith}
use Rattle.stim_read.specs.Parts.{is_one_of}
use Rattle.stim_read.specs.CycleRules.{has_known_name, place_in}
use Rattle.stim_read.proofs.TxValueLemmas.{found_more, found_all}
use Rattle.stim_read.proofs.WalkLemmas.{all_goes, all_ends}
use Rattle.stim_read.proofs.tx_values.find_values.Goals as goal

pub loop-g-preserved : goal.loop-g-preserved
loop-g-preserved c =
    let names = c.args.names.now in
    let given = c.args.given.now in
    let i = c.loop-g.g-index in
    let g = c.g-item.result in
    let within : i < length given = omega arith in
    let there = c.in-Some.ensures.place in
    let known : has_known_name names g ≡ true = ap (is_one_of names) (sym c.bytes.ensures) ∙ there.0 in
    record {
      known = sym (all_goes (has_known_name names) given i g within c.g-item.is known) ∙ c.loop-g.invariant.known;
      found = found_more names given i g c.loop-g.found.items c.in-Some.place c.in-Some.ensures.distinct within c.g-item.is (there.1 ∙ ap (place_in names) c.bytes.ensures) there.2 c.loop-g.invariant.found;
    }

pub returns : goal.returns
returns c =
    let past : length c.args.given.now ≤ c.loop-g.g-index = omega arith in (
      sym c.loop-g.invariant.known ∙ all_ends (has_known_name c.args.names.now) c.args.given.now c.loop-g.g-index past,
      found_all c.args.names.now c.args.given.now c.loop-g.g-index c.loop-g.found.items past c.loop-g.invariant.found,
    )
