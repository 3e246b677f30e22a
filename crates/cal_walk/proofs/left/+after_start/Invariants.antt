use Rattle.std.proofs.Common.{◌≡◌, ℕ, length, map, take, All}
use Rattle.cal_ast.specs.Actors.{Actor}
use Rattle.cal_ast.specs.Tree.{PortName}
use Rattle.cal_walk.specs.Left.{Sight, left_at_once}
use Rattle.cal_walk.specs.Trees.{left_tree, slice_trees, plans_of, IsSeen, LeftIsWithin}
use Rattle.cal_walk.proofs.left.+after_start.Given as goal

-- what is left of the plans so far
abbrev pub invariant-after_each_start-loop-plan : goal.invariant-after_each_start-loop-plan
invariant-after_each_start-loop-plan l = record {
  trees : (f : ℕ → Actor) (h : ℕ → PortName) (s : Sight) → IsSeen f h s l.seen → plans_of (map (left_tree f h) l.all.items) ≡ left_at_once s (slice_trees f h (take l.plan-index l.plans));
  within : All (LeftIsWithin (length l.seen.done.items) (length l.seen.reads.items)) l.all.items;
}
