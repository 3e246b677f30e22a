use Rattle.std.proofs.Common.{◌≡◌, ◌++◌, take}
use Rattle.hw_cells.specs.inside.Copies.{node_entries}
use Rattle.hw_cells.proofs.flat.add_reads.Given as goal

abbrev pub invariant-loop-read : goal.invariant-loop-read
invariant-loop-read l = l.entries.items ≡ l.fn.entries.items ++ node_entries l.first l.node (take l.read-index l.reads)
