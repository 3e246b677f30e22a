use Rattle.std.proofs.Common.{subst}
use Rattle.hw_names.specs.Name.{AreDistinct}
use Rattle.fil_loops.specs.inside.Ports.{PortList}
use Rattle.fil_loops.proofs.PortNumberLemmas.{distinct_before}
use Rattle.fil_loops.proofs.ports.Ports.instances.Goals as goal

pub returns-clause-distinct : goal.returns-clause-distinct
returns-clause-distinct c = subst (λ (v : PortList). AreDistinct v.instances) c.self.view_is (distinct_before _ _ c.begin_with_names.ensures c.are_distinct.ensures)
