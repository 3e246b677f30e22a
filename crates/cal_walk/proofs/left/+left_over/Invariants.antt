use Rattle.std.proofs.Common.{ℕ}
use Rattle.cal_ast.specs.Actors.{Actor}
use Rattle.cal_ast.specs.Tree.{PortName}
use Rattle.cal_walk.specs.Trees.{left_tree}
use Rattle.cal_walk.proofs.OverLemmas.{AreOver}
use Rattle.cal_walk.proofs.left.+left_over.Given as goal

-- of none so far anything is left
abbrev pub invariant-all_over-loop-left : goal.invariant-all_over-loop-left
invariant-all_over-loop-left l = (f : ℕ → Actor) (h : ℕ → PortName) → AreOver (left_tree f h) l.all l.left-index
