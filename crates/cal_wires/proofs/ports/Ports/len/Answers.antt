use Rattle.std.proofs.Common.{subst}
use Rattle.hw_names.specs.Name.{AreDistinct}
use Rattle.cal_wires.specs.Nodes.{PortList}
use Rattle.cal_wires.proofs.PortLemmas.{keys_distinct}
use Rattle.cal_wires.proofs.ports.Ports.len.Goals as goal

pub returns-clause-distinct : goal.returns-clause-distinct
returns-clause-distinct c = subst (λ (v : PortList). AreDistinct v.keys) c.self.view_is (keys_distinct c.self.inside.texts.all c.are_distinct.ensures c.self.inside.set.keys c.self.invariant.0 c.self.invariant.1)
