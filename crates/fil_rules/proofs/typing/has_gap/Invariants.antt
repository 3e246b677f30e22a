use Rattle.std.proofs.Common.{◌≢◌, All, take}
use Rattle.fil_ast.specs.Signature as tree
use Rattle.fil_sig.specs.Seen.{seen_delay}
use Rattle.fil_sig.specs.declared.time_sig.SigEvent.{SigEvent}
use Rattle.fil_rules.proofs.typing.has_gap.Given as goal

-- none of the events so far is held until the next
abbrev pub invariant-loop-event : goal.invariant-loop-event
invariant-loop-event l = All (λ (e : SigEvent). seen_delay e.delay ≢ tree.Gap) (take l.event-index l.events)
