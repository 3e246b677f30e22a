use Rattle.std.proofs.Common.{◌≡◌, drop, map}
use Rattle.fil_sig.specs.Seen.{seen_event}
use Rattle.fil_driven.specs.TxDrive.{event_with}
use Rattle.filc_report.proofs.tx_inputs.event_with.Given as goal

-- no event before this one has the port
abbrev pub invariant-loop-number : goal.invariant-loop-number
invariant-loop-number l = event_with 0 (map seen_event l.events) l.port ≡ event_with l.number (map seen_event (drop l.number l.events)) l.port
