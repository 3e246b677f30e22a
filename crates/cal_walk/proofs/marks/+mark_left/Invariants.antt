use Rattle.std.proofs.Common.{ℕ, length, map, take}
use Rattle.cal_ast.specs.Actors.{Actor}
use Rattle.cal_ast.specs.Plan.{AtOnce}
use Rattle.cal_ast.specs.Tree.{PortName}
use Rattle.cal_walk.specs.Left.{enables, tests}
use Rattle.cal_walk.specs.Marking.{AddsWanted, HaveOwnMarks, KeepsSizes}
use Rattle.cal_walk.specs.Trees.{left_tree, plans_of}
use Rattle.cal_walk.proofs.marks.+mark_left.Given as goal

-- what those so far want is marked
abbrev pub invariant-mark_all-loop-left : goal.invariant-mark_all-loop-left
invariant-mark_all-loop-left l = record {
  sizes : KeepsSizes l.initial.marks l.marks;
  wanted : (f : ℕ → Actor) (h : ℕ → PortName) → HaveOwnMarks f (length l.initial.marks.enabled.items)
      → AddsWanted f (enables (AtOnce (plans_of (map (left_tree f h) (take l.left-index l.all))))) (tests (AtOnce (plans_of (map (left_tree f h) (take l.left-index l.all))))) l.initial.marks l.marks;
}
