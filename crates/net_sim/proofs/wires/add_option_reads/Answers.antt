use Rattle.std.proofs.Common.{Option, subst}
use Rattle.std.specs.Prelude.{All, Contains}
use Rattle.hw_names.specs.Name.{text_of}
use Rattle.hw_names.specs.declared.names.NameId.{NameId}
use Rattle.net_core.specs.Graph.{option_ports}
use Rattle.net_core.specs.Guard.{guard_option}
use Rattle.net_core.specs.declared.net.Guard.{Guard}
use Rattle.net_sim.proofs.wires.add_option_reads.Goals as goal

pub add_guard_reads-requires-clause-there : goal.add_guard_reads-requires-clause-there
add_guard_reads-requires-clause-there c =
    subst (λ (o : Option (Guard NameId)). All (Contains c.args.ports.now) (option_ports (guard_option (text_of c.args.names.now) o))) c.in-Some.is c.requires.there
