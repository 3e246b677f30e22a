-- `sim F S` of a netlist: the rows of its outputs under a stimulus, and then its shown memories. This project's.
use Rattle.std.specs.Prelude.{false, []}
use Rattle.filc_core.specs.Arguments.{Arguments}
use Rattle.filc_core.specs.Command.{Command}
use Rattle.filc_core.specs.commands.NetRun.{net_run}

abbrev pub sim_net : Arguments → Command
sim_net = net_run (λ net. []) false
