use Rattle.std.proofs.Common.{◌∙◌, refl, subst, sym}
use Rattle.hw_graph.proofs.ComponentLemmas.{gathered_in_range, ok_of}
use Rattle.hw_graph.specs.inside.Components.{AreBelow}
use Rattle.hw_graph.specs.Graph.{AreInRange}
use Rattle.hw_graph.specs.Groups.{IsGathered}
use Rattle.hw_tests.proofs.graphs.graph.Goals as goal

pub returns-clause-in_range : goal.returns-clause-in_range
returns-clause-in_range c =
    let entries = c.deref-2.result.now in
    let below : AreBelow c.args.count entries = subst (AreBelow c.args.count) (c.deref.ensures.value ∙ sym c.deref-2.ensures.value) (c.if-not-are_below.ensures refl) in
    ok_of (IsGathered entries c.args.count) AreInRange (λ groups gathered. gathered_in_range entries c.args.count groups below gathered) c.gather.result c.gather.ensures
