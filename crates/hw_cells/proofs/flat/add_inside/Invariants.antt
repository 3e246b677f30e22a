use Rattle.std.proofs.Common.{◌≡◌, ◌++◌, drop}
use Rattle.hw_cells.specs.inside.Copies.{entries_from, inside_entries}
use Rattle.hw_cells.proofs.flat.add_inside.Given as goal

-- with the entries of the nodes that are left these are all
abbrev pub invariant-loop-node : goal.invariant-loop-node
invariant-loop-node l = l.entries.items ++ entries_from l.first l.node (drop l.node l.reads) ≡ l.fn.entries.items ++ inside_entries l.first l.reads
