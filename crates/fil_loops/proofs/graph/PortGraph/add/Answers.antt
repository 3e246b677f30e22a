use Rattle.std.proofs.Common.{refl}
use Rattle.fil_loops.proofs.PortGraphLemmas.{adds_pair, within_pushed}
use Rattle.fil_loops.proofs.graph.PortGraph.add.Goals as goal

pub invariant_of-self : goal.invariant_of-self
invariant_of-self c =
    let old = c.args.self.now in
    record { in_range = within_pushed old.ports.names old.entries.items c.push.new.self.items _ _ c.push.ensures.items old.in_range (c.requires.key, c.requires.value) }

pub returns-clause-pair : goal.returns-clause-pair
returns-clause-pair c port other at_key at_other =
    adds_pair c.args.self.now _ port other (record { key = c.args.key; value = c.args.value })
    (λ i text at. at) refl c.in_ok-push.ensures.items at_key at_other
