use Rattle.std.proofs.Common.{length, arith, sym, subst₂}
use Rattle.hw_graph.proofs.ComponentLemmas.{reads_in_range, gathered_in_range, ok_of}
use Rattle.hw_graph.specs.inside.Components.{AreBelow}
use Rattle.hw_graph.specs.Groups.{IsGathered}
use Rattle.hw_graph.specs.Graph.{AreInRange}
use Rattle.hw_graph.proofs.components.readers_of.Goals as goal

pub loop-port-preserved : goal.loop-port-preserved
loop-port-preserved c =
    let reads = c.args.reads.now in
    c.in_ok-add_reader.ensures (length reads) (omega (arith, c.loop-port-test.true, c.len-port-end.ensures)) (reads_in_range reads c.requires.in_range c.loop-port.port c.get.result.now c.get.ensures) c.loop-port.invariant

pub returns-clause-in_range : goal.returns-clause-in_range
returns-clause-in_range c =
    let below = subst₂ AreBelow (sym c.len.ensures) (sym c.as_slice.ensures.value) c.loop-port.invariant in
    ok_of (IsGathered c.as_slice.result.now c.len.result) AreInRange (λ groups gathered. gathered_in_range c.as_slice.result.now c.len.result groups below gathered) c.gather.result c.gather.ensures
