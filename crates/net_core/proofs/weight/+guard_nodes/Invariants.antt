use Rattle.std.proofs.Common.{◌≡◌, ◌+◌, ◌≤◌, take, sum_by}
use Rattle.net_core.specs.Guard.{guard_tree}
use Rattle.net_core.specs.Weight.{node_count, saturated}
use Rattle.net_core.specs.declared.net.Guard.{size-Guard}
use Rattle.net_core.proofs.weight.+guard_nodes.Given as goal

-- the nodes so far and those of what is left are all nodes, and what is left is no deeper
abbrev pub invariant-guard_nodes-loop-inner : goal.invariant-guard_nodes-loop-inner
invariant-guard_nodes-loop-inner g l =
    (saturated (node_count (guard_tree (λ p. p) l.guard)) ≡ saturated (l.nodes + node_count (guard_tree (λ p. p) l.inner)))
    × (size-Guard _ l.inner ≤ size-Guard _ l.guard)

abbrev pub invariant-list_nodes-loop-guard : goal.invariant-list_nodes-loop-guard
invariant-list_nodes-loop-guard g l =
    l.nodes ≡ saturated (sum_by (λ guard. node_count (guard_tree (λ p. p) guard)) (take l.guard-index l.guards))
