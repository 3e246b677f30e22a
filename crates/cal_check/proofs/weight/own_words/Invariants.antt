use Rattle.std.proofs.Common.{◌≡◌, List, sum_by, take}
use Rattle.net_core.specs.Weight.{saturated}
use Rattle.cal_ast.specs.Tree.{CellDef, Design}
use Rattle.cal_place.specs.Prototypes.{AreMadeOf}
use Rattle.cal_check.specs.Weight.{cell_words}
use Rattle.cal_check.proofs.weight.own_words.Given as goal

abbrev pub invariant-loop-cell : goal.invariant-loop-cell
invariant-loop-cell l = (design : Design) (cells : List CellDef) → AreMadeOf design cells l.made → l.words ≡ saturated (sum_by cell_words (take l.cell-index cells))
