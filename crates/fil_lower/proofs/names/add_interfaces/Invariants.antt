use Rattle.std.proofs.Common.{All, map, take}
use Rattle.hw_names.specs.Name.{KeepsTexts}
use Rattle.fil_sig.specs.Seen.{seen_event}
use Rattle.fil_lower.specs.inside.Parts.{IsNamedEvent}
use Rattle.fil_lower.proofs.names.add_interfaces.Given as goal

abbrev pub invariant-loop-event : goal.invariant-loop-event
invariant-loop-event l = record {
  kept : KeepsTexts l.fn.names l.names;
  named : All (IsNamedEvent l.names) (take l.event-index (map seen_event l.sig.events.items));
}
