use Rattle.std.proofs.Common.{◌++◌, arith}
use Rattle.hw_cells.specs.inside.Copies.{inside_entries}
use Rattle.hw_cells.proofs.FlatLemmas.{node_more, read_within}
use Rattle.hw_cells.proofs.flat.add_inside.Goals as goal

pub add_reads-requires-clause-reads : goal.add_reads-requires-clause-reads
add_reads-requires-clause-reads c = λ k d lt.
    let within = read_within c.args.reads.now c.loop-node.node c.get.result.now c.requires.in_range c.get.ensures k d lt in
    omega (arith, within, c.requires.room)

pub loop-node-preserved : goal.loop-node-preserved
loop-node-preserved c =
    let first = c.args.first in
    let reads = c.args.reads.now in
    node_more first c.loop-node.node reads c.get.result.now c.loop-node.entries.items c.add_reads.new.entries.items (c.args.entries.now.items ++ inside_entries first reads) c.get.ensures c.in_ok-add_reads.ensures c.loop-node.invariant
