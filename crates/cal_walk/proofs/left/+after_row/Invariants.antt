use Rattle.std.proofs.Common.{◌≡◌, ℕ, length, map, take, All}
use Rattle.cal_ast.specs.Actors.{Actor}
use Rattle.cal_ast.specs.Tree.{PortName}
use Rattle.cal_walk.specs.Left.{Sight, left_at_once}
use Rattle.cal_walk.specs.Trees.{left_tree, plans_of, IsSeen, LeftIsWithin}
use Rattle.cal_walk.proofs.left.+after_row.Given as goal

-- what is left of each so far
abbrev pub invariant-after_each-loop-left : goal.invariant-after_each-loop-left
invariant-after_each-loop-left l = record {
  trees : (f : ℕ → Actor) (h : ℕ → PortName) (s : Sight) → IsSeen f h s l.seen
      → plans_of (map (left_tree f h) l.next.items) ≡ left_at_once s (plans_of (map (left_tree f h) (take l.left-index l.all)));
  within : All (LeftIsWithin (length l.seen.done.items) (length l.seen.reads.items)) l.next.items;
}
