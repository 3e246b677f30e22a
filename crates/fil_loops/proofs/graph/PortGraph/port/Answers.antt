use Rattle.std.proofs.Common.{refl}
use Rattle.fil_loops.proofs.PortGraphLemmas.{adds_named, within_more}
use Rattle.fil_loops.proofs.graph.PortGraph.port.Goals as goal

pub invariant_of-self : goal.invariant_of-self
invariant_of-self c =
    let old = c.args.self.now in
    record { in_range = within_more old.ports.names c.port.new.self.names old.entries.items c.port.ensures.kept old.in_range }

pub returns-clause-same : goal.returns-clause-same
returns-clause-same c = adds_named c.args.self.now _ c.port.ensures.kept c.port.ensures.instances refl
