use Rattle.std.proofs.Common.{length, sym, subst}
use Rattle.std.specs.Prelude.{All}
use Rattle.std.proofs.lemmas.List.Elements.{All-nil, All-push}
use Rattle.hw_cells.specs.Cells.{IsAskable}
use Rattle.hw_tests.proofs.cells.told_of.Goals as goal

pub tell_all-requires-clause-askable : goal.tell_all-requires-clause-askable
tell_all-requires-clause-askable c =
    let askable = IsAskable (length c.args.inside.now) in
    let none = subst (All askable) (sym c.new-asked.ensures.items) (All-nil askable) in
    subst (All askable) (sym c.in_ok-push.ensures.items) (All-push askable c.new-asked.result.items c.in_ok-ask.field-0 none c.in_ok-ask.ensures)
