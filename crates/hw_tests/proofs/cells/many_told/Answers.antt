use Rattle.std.proofs.Common.{length, sym, subst}
use Rattle.std.specs.Prelude.{All}
use Rattle.std.proofs.lemmas.List.Elements.{All-nil, All-push}
use Rattle.hw_cells.specs.Cells.{IsAskable}
use Rattle.hw_tests.proofs.cells.many_told.Goals as goal

pub loop-number-init : goal.loop-number-init
loop-number-init c =
    let askable = IsAskable (length c.args.inside.now) in
    subst (All askable) (sym c.new-asked.ensures.items) (All-nil askable)

pub loop-number-preserved : goal.loop-number-preserved
loop-number-preserved c =
    let askable = IsAskable (length c.args.inside.now) in
    subst (All askable) (sym c.in_ok-push.ensures.items) (All-push askable c.loop-number.asked.items c.in_ok-ask.field-0 c.loop-number.invariant c.in_ok-ask.ensures)
