use Rattle.std.proofs.Common.{ℕ}
use Rattle.cal_ast.specs.Actors.{Actor}
use Rattle.cal_ast.specs.Tree.{PortName}
use Rattle.cal_walk.specs.Trees.{plan_tree}
use Rattle.cal_walk.proofs.OverLemmas.{AreOver}
use Rattle.cal_walk.proofs.plan.first_lasting.Given as goal

-- none so far takes a row
abbrev pub invariant-loop-number : goal.invariant-loop-number
invariant-loop-number l = (f : ℕ → Actor) (h : ℕ → PortName) → AreOver (plan_tree f h) l.plans l.number
