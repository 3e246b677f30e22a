use Rattle.std.proofs.Common.{◌+◌, ◌<◌, get_or, length, subst, sym, ◌∙◌}
use Rattle.std.specs.Prelude.{IfSome}
use Rattle.std.proofs.lemmas.Option.{slice_get-get_or}
use Rattle.net_steps.specs.declared.clashes.Clash.{Clash}
use Rattle.net_steps.proofs.ClashLemmas.{IsLeastUpto, least_all, least_kept, least_with, within_with}
use Rattle.net_steps.proofs.clashes.find_conflict.Goals as goal
use Rattle.net_steps.proofs.clashes.find_conflict.Goals.{then-is_on, else-is_on}

pub loop-clash-preserved : goal.loop-clash-preserved
loop-clash-preserved c =
    let names = c.args.names.now in
    let clashes = c.args.clashes.now in
    let slots = c.args.slots.now in
    let i = c.loop-clash.clash-index in
    let found = c.loop-clash.found in
    let d : Clash = record { first = 0; second = 0; port = 0 } in
    let here = get_or clashes i d in
    let at = slice_get-get_or clashes i d c.loop-clash-test.true in
    elim c.if-is_on.branch [
      | then-is_on w ↦ record {
        within = subst (λ o. IfSome o (λ port. port < length names)) (sym w.found-is) (within_with names found here.port w.lesser_of.result (c.requires i d c.loop-clash-test.true).2 c.loop-clash.invariant.within w.lesser_of.ensures);
        least = subst (IsLeastUpto names clashes slots (i + 1)) (sym w.found-is) (least_with names clashes slots i here at found w.lesser_of.result (sym c.is_on.ensures ∙ w.if-is_on.true) w.lesser_of.ensures c.loop-clash.invariant.least);
      }
      | else-is_on w ↦ record {
        within = subst (λ o. IfSome o (λ port. port < length names)) (sym w.found-is) c.loop-clash.invariant.within;
        least = subst (IsLeastUpto names clashes slots (i + 1)) (sym w.found-is) (least_kept names clashes slots i here at found (sym c.is_on.ensures ∙ w.if-is_on.false) c.loop-clash.invariant.least);
      }
    ]

pub returns : goal.returns
returns c = least_all c.args.names.now c.args.clashes.now c.args.slots.now c.loop-clash.clash-index c.loop-clash.found c.loop-clash-test.false c.loop-clash.invariant.least
