use Rattle.std.proofs.Common.{◌≡◌, ℕ, Some, slice_get, take}
use Rattle.cal_ast.specs.Tree.{Component, Design}
use Rattle.cal_place.specs.Prototypes.{AreMadeOf}
use Rattle.cal_check.specs.inside.Totals.{ArePartsWhole}
use Rattle.cal_check.proofs.WeightLemmas.{CellsWeigh}
use Rattle.cal_check.proofs.weight.cells_come_to.Given as goal

abbrev pub invariant-loop-cell : goal.invariant-loop-cell
invariant-loop-cell l =
    (design : Design) (own : Component → ℕ) (n : ℕ) (c : Component) → slice_get design n ≡ Some c → AreMadeOf design c.cells l.made → ArePartsWhole design own n l.whole
    → CellsWeigh design own (take l.cell-index c.cells) l.sum
