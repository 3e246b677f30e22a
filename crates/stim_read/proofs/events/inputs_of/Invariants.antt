use Rattle.std.proofs.Common.{◌≡◌, ◌++◌, drop, map}
use Rattle.fil_sig.specs.Seen.{seen, seen_event}
use Rattle.stim_read.specs.TxEvents.{event_seen, events_from}
use Rattle.stim_read.proofs.events.inputs_of.Given as goal

abbrev pub invariant-loop-number : goal.invariant-loop-number
invariant-loop-number l =
    map event_seen l.inputs.items ++ events_from (seen l.sig) l.number (map seen_event (drop l.number l.sig.events.items))
    ≡ events_from (seen l.sig) 0 (map seen_event l.sig.events.items)
