use Rattle.std.proofs.Common.{◌≤◌, All, List, map, take}
use Rattle.hw_names.specs.Name.{Text}
use Rattle.net_core.specs.Numbers.{GuardHasNumbers}
use Rattle.net_core.specs.declared.net.Guard.{size-Guard}
use Rattle.net_guard.specs.inside.Folding.{IsListFoldOf, IsReduced, negated_tree, tree_of}
use Rattle.net_guard.proofs.fold.+fold.Given as goal

-- what is left, behind a `!` where that is so, is a reduction of the guard, has its numbers and is no deeper
abbrev pub invariant-fold-loop-inner : goal.invariant-fold-loop-inner
invariant-fold-loop-inner l =
    record {
      depth : size-Guard _ l.inner ≤ size-Guard _ l.guard;
      numbers : (names : List Text) → GuardHasNumbers names l.guard → GuardHasNumbers names l.inner;
      reduced : (names : List Text) → IsReduced (tree_of names l.guard) (negated_tree l.negated (tree_of names l.inner));
    }

abbrev pub invariant-fold_list-loop-guard : goal.invariant-fold_list-loop-guard
invariant-fold_list-loop-guard l =
    (names : List Text) → All (GuardHasNumbers names) l.guards → IsListFoldOf names l.joint (map (tree_of names) (take l.guard-index l.guards)) l.kept
