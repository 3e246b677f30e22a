use Rattle.std.proofs.Common.{◌≡◌, Some, map, take}
use Rattle.fil_loops.proofs.inside.all_of.Given as goal

-- the nodes so far
abbrev pub invariant-loop-node : goal.invariant-loop-node
invariant-loop-node l = l.all.items ≡ map Some (take l.node-index l.nodes)
