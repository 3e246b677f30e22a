-- `trace F S` of a netlist: its text, an empty line, the rows of all its ports under a stimulus, and then its shown memories. This project's.
use Rattle.std.specs.Prelude.{true, [], ◌∷◌, ◌++◌}
use Rattle.net_text.specs.Layout.{net_text}
use Rattle.filc_core.specs.Arguments.{Arguments}
use Rattle.filc_core.specs.Command.{Command}
use Rattle.filc_core.specs.commands.NetRun.{net_run}

abbrev pub trace_net : Arguments → Command
trace_net = net_run (λ net. net_text net ++ 10 ∷ []) true
