use Rattle.std.proofs.Common.{◌≡◌, ◌++◌, List, All, drop, map}
use Rattle.hw_names.specs.Name.{Text, text_of}
use Rattle.fil_ast.specs.Holds.{uses_from}
use Rattle.fil_ast.specs.Numbers.{IsNumberOf, TimeHasNumber}
use Rattle.fil_ast.specs.Tree.{time_tree}
use Rattle.fil_sig.specs.Seen.{seen_event}
use Rattle.fil_share.specs.Uses.{IsGoodUse, held, shown_use}
use Rattle.fil_share.proofs.uses.push_events.Given as goal

-- the uses so far, and those of the events that are left, are all
abbrev pub invariant-loop-event : goal.invariant-loop-event
invariant-loop-event l = record {
  counted : l.number ≡ l.event-index;
  shown : (names : List Text) →
      map (shown_use names) l.uses.items
      ++ map (held (text_of names l.call)) (uses_from l.event-index (drop l.event-index (map seen_event l.events)) (text_of names l.inst) (map (time_tree names) l.at))
      ≡ map (shown_use names) l.fn.uses.items ++ map (held (text_of names l.call)) (uses_from 0 (map seen_event l.events) (text_of names l.inst) (map (time_tree names) l.at));
  good : (names : List Text) → IsNumberOf names l.call → IsNumberOf names l.inst → All (TimeHasNumber names) l.at →
      All (IsGoodUse names) l.fn.uses.items → All (IsGoodUse names) l.uses.items;
}
