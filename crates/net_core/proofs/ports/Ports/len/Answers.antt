use Rattle.std.proofs.Common.{length, ap, sym, ◌∙◌}
use Rattle.net_core.proofs.PortListLemmas.{length-port_lines}
use Rattle.net_core.proofs.ports.Ports.len.Goals as goal

pub returns-clause-len : goal.returns-clause-len
returns-clause-len c =
    let own = c.self.inside in
    c.len.ensures.len ∙ sym (length-port_lines own.names own.ports.items c.self.invariant) ∙ ap length c.self.view_is
