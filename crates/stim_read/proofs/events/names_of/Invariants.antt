use Rattle.std.proofs.Common.{◌≡◌, take, map}
use Rattle.fil_sig.specs.declared.time_sig.SigEvent.{SigEvent}
use Rattle.stim_read.proofs.events.names_of.Given as goal

abbrev pub invariant-loop-event : goal.invariant-loop-event
invariant-loop-event l = l.names ≡ take l.event-index (map (λ (e : SigEvent). e.name) l.events)
