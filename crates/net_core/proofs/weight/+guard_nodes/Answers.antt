use Rattle.std.proofs.Common.{ap, ◌+◌, ◌∙◌}
use Rattle.net_core.specs.Weight.{saturated}
use Rattle.net_core.proofs.GuardLemmas.{nodes_with_list}
use Rattle.net_core.proofs.weight.+guard_nodes.Goals as goal

pub guard_nodes-returns-in-All : goal.guard_nodes-returns-in-All
guard_nodes-returns-in-All g t c =
    c.saturating_add.ensures ∙ ap (λ n. saturated (n + c.list_nodes.result)) c.saturating_add-nodes.ensures
    ∙ nodes_with_list (λ p. p) c.args.guard.now c.loop-inner.inner.now c.in-All.guards c.deref.result.now c.loop-inner.nodes c.list_nodes.result
    c.loop-inner.invariant.0 c.in-All.is c.deref.ensures.value c.list_nodes.ensures
