use Rattle.std.proofs.Common.{◌≡◌, ◌++◌, map}
use Rattle.fil_sig.specs.Seen.{seen_port}
use Rattle.stim_read.specs.TxEvents.{ports_after, port_targets}
use Rattle.stim_read.proofs.TxEventLemmas.{ports_from}
use Rattle.stim_read.proofs.events.names_after.Given as goal

abbrev pub invariant-loop-port : goal.invariant-loop-port
invariant-loop-port l = l.names ++ (port_targets (ports_from l.event l.ins l.port-index)).names ≡ (port_targets (ports_after l.event (map seen_port l.ins))).names
