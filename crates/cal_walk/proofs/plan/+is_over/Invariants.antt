use Rattle.std.proofs.Common.{◌≡◌, ℕ, ◌<◌, true, Some}
use Rattle.std.specs.Prelude.{slice_get}
use Rattle.cal_ast.specs.Actors.{Actor}
use Rattle.cal_ast.specs.Tree.{PortName}
use Rattle.cal_walk.specs.Left.{is_over}
use Rattle.cal_walk.specs.Trees.{plan_tree}
use Rattle.cal_walk.specs.declared.plan.Plan.{Plan}
use Rattle.cal_walk.proofs.plan.+is_over.Given as goal

-- none so far takes a row
abbrev pub invariant-are_over-loop-plan : goal.invariant-are_over-loop-plan
invariant-are_over-loop-plan l =
    (f : ℕ → Actor) (h : ℕ → PortName) (k : ℕ) (p : Plan) → k < l.plan-index → slice_get l.plans k ≡ Some p → is_over (plan_tree f h p) ≡ true
