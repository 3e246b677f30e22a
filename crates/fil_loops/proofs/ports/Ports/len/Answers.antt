use Rattle.std.proofs.Common.{subst}
use Rattle.hw_names.specs.Name.{AreDistinct}
use Rattle.fil_loops.specs.inside.Ports.{PortList}
use Rattle.fil_loops.proofs.PortNumberLemmas.{names_distinct}
use Rattle.fil_loops.proofs.ports.Ports.len.Goals as goal

pub returns-clause-distinct : goal.returns-clause-distinct
returns-clause-distinct c = subst (λ (v : PortList). AreDistinct v.names) c.self.view_is (names_distinct c.self.inside.texts.all c.are_distinct.ensures c.self.inside.set.keys c.self.invariant.0 c.self.invariant.1)
