use Rattle.std.proofs.Common.{sym, subst}
use Rattle.std.specs.Prelude.{All}
use Rattle.hw_cells.specs.Cells.{AreOfParts, IsFit}
use Rattle.hw_tests.specs.declared.cells.TheConstants.{MANY_PORTS}
use Rattle.hw_tests.proofs.cells.many_flat.Goals as goal

pub flatten-requires-clause-cells : goal.flatten-requires-clause-cells
flatten-requires-clause-cells c = subst (All (IsFit MANY_PORTS)) (sym c.deref-3.ensures.value) c.in_ok-cells.ensures.fit

pub flatten-requires-clause-parts : goal.flatten-requires-clause-parts
flatten-requires-clause-parts c = subst AreOfParts (sym c.deref-3.ensures.value) c.in_ok-cells.ensures.parts
