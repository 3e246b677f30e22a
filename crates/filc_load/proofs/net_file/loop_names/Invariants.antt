use Rattle.std.proofs.Common.{take}
use Rattle.filc_load.specs.Built.{AreNamesOf}
use Rattle.filc_load.proofs.net_file.loop_names.Given as goal

-- the names of the ports so far
abbrev pub invariant-loop-port : goal.invariant-loop-port
invariant-loop-port l = AreNamesOf l.table.names (take l.port-index l.ports) l.names.items
