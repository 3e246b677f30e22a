use Rattle.std.proofs.Common.{◌<◌, List, ℕ, get_or, length, set, refl, subst, arith}
use Rattle.std.proofs.lemmas.List.{take_all}
use Rattle.std.proofs.lemmas.Option.{slice_get-get_or}
use Rattle.cal_group.proofs.TableLemmas.{noted_none, noted_more}
use Rattle.cal_group.specs.inside.Ruling.{IsNoted}
use Rattle.cal_group.proofs.remove.note_rules.Goals as goal

pub loop-place-init : goal.loop-place-init
loop-place-init c = noted_none c.args.acts.now c.args.table.now

pub loop-place-preserved : goal.loop-place-preserved
loop-place-preserved c =
    let acts = c.args.acts.now in
    let places = c.args.places.now in
    let i = c.loop-place.place-index in
    let within = c.loop-place-test.true in
    let p = get_or places i 0 in
    let rule = get_or acts p c.index-acts-place.result in
    let p_within : p < length acts = c.requires.within i 0 within in
    let fits : rule.group.0 < length c.args.table.now = c.requires.groups p c.index-acts-place.result p_within in
    noted_more acts places c.loop-place.table (set c.loop-place.table rule.group.0 p) i p rule (slice_get-get_or places i 0 within) (slice_get-get_or acts p c.index-acts-place.result p_within)
    (omega (arith, fits, c.loop-place.auto.table)) refl c.loop-place.invariant

pub returns : goal.returns
returns c =
    subst (λ (places : List ℕ). IsNoted c.args.acts.now places c.loop-place.table) (take_all c.loop-place.place-index c.args.places.now c.loop-place-test.false) c.loop-place.invariant
