use Rattle.std.proofs.Common.{ℕ, length, take}
use Rattle.cal_ast.specs.Actors.{Actor}
use Rattle.cal_ast.specs.Plan.{AtOnce}
use Rattle.cal_ast.specs.Tree.{PortName}
use Rattle.cal_walk.specs.Left.{enables, tests}
use Rattle.cal_walk.specs.Marking.{AddsWanted, HaveOwnMarks, KeepsSizes}
use Rattle.cal_walk.specs.Trees.{slice_trees}
use Rattle.cal_walk.proofs.marks.+mark_start.Given as goal

-- what the plans so far want is marked
abbrev pub invariant-mark_each_start-loop-plan : goal.invariant-mark_each_start-loop-plan
invariant-mark_each_start-loop-plan l = record {
  sizes : KeepsSizes l.initial.marks l.marks;
  wanted : (f : ℕ → Actor) (h : ℕ → PortName) → HaveOwnMarks f (length l.initial.marks.enabled.items)
      → AddsWanted f (enables (AtOnce (slice_trees f h (take l.plan-index l.plans)))) (tests (AtOnce (slice_trees f h (take l.plan-index l.plans)))) l.initial.marks l.marks;
}
