use Rattle.std.proofs.Common.{◌≡◌, drop, map}
use Rattle.fil_sig.specs.Seen.{seen_port}
use Rattle.stim_read.proofs.TxEventLemmas.{greatest_from}
use Rattle.stim_read.proofs.events.greatest_end.Given as goal

abbrev pub invariant-loop-port : goal.invariant-loop-port
invariant-loop-port l = greatest_from l.greatest l.event (map seen_port (drop l.port-index l.ports)) ≡ greatest_from 0 l.event (map seen_port l.ports)
