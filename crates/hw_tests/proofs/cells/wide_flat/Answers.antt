use Rattle.std.proofs.Common.{sym, subst}
use Rattle.std.specs.Prelude.{All}
use Rattle.hw_cells.specs.Cells.{AreOfParts, IsFit, IsTold}
use Rattle.hw_tests.proofs.CellLemmas.{lent_too}
use Rattle.hw_tests.specs.declared.cells.TheConstants.{PORTS}
use Rattle.hw_tests.proofs.cells.wide_flat.Goals as goal

pub cells_of-requires-clause-told : goal.cells_of-requires-clause-told
cells_of-requires-clause-told c =
    let told = IsTold c.in_ok-inside.inside in
    lent_too told c.deref.result.now 0 c.first.result (subst (All told) (sym c.deref.ensures.value) c.in_ok-told.ensures) c.first.ensures.item

pub flatten-requires-clause-cells : goal.flatten-requires-clause-cells
flatten-requires-clause-cells c = subst (All (IsFit PORTS)) (sym c.deref-2.ensures.value) c.in_ok-cells.ensures.fit

pub flatten-requires-clause-parts : goal.flatten-requires-clause-parts
flatten-requires-clause-parts c = subst AreOfParts (sym c.deref-2.ensures.value) c.in_ok-cells.ensures.parts
