use Rattle.std.proofs.Common.{◌≡◌, eqb, take}
use Rattle.indexmap.specs.IndexSet.{insert_all}
use Rattle.hw_cells.proofs.search.add_all.Given as goal

abbrev pub invariant-loop-node : goal.invariant-loop-node
invariant-loop-node l = l.nodes.keys ≡ insert_all eqb l.fn.nodes.keys (take l.node-index l.more)
