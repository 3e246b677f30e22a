use Rattle.std.proofs.Common.{take}
use Rattle.cal_ast.specs.Tree.{Design}
use Rattle.cal_place.specs.Tables.{AreMade}
use Rattle.cal_check.specs.inside.Totals.{AreOwn}
use Rattle.cal_check.specs.Weight.{own_words}
use Rattle.cal_check.proofs.weight.own_words_of_each.Given as goal

abbrev pub invariant-loop-cells : goal.invariant-loop-cells
invariant-loop-cells l = (design : Design) → AreMade design l.made → AreOwn (take l.cells-index design) own_words l.words.items
