use Rattle.std.proofs.Common.{take}
use Rattle.cal_ast.specs.Tree.{design_of}
use Rattle.cal_check.specs.inside.Totals.{AreOwn}
use Rattle.cal_check.specs.Weight.{own_weight}
use Rattle.cal_check.proofs.weight.own_weights.Given as goal

abbrev pub invariant-loop-number : goal.invariant-loop-number
invariant-loop-number l = AreOwn (take l.number (design_of l.design)) own_weight l.weights.items
