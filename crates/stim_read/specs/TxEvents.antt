-- The events of a component, as a stimulus of transactions meets them. This project's.
use Rattle.std.specs.Prelude.{ℕ, ◌+◌, ◌==◌, max, map, List, [], ◌∷◌, Option, Some, None}
use Rattle.std.specs.List.{filter, fold}
use Rattle.hw_names.specs.Name.{Text}
use Rattle.fil_ast.specs.Signature.{Delay, Fixed, Gap, End, SigEvent, SigPort, Signature}
use Rattle.stim_read.specs.CycleRules.{Targets}
use Rattle.stim_read.specs.declared.events.EventInputs.{EventInputs}
use Rattle.stim_read.specs.declared.events.Events.{Events}

-- how many rows starts of an event are apart at least, the greatest end among the intervals of its ports, and its data inputs
pub record Event : Type 0 where
  pub delay : ℕ
  pub end : ℕ
  pub inputs : Targets

-- events, and their names
pub record EventList : Type 0 where
  pub names : List Text
  pub events : List Event

-- the names of the events, in order
abbrev pub event_names : Signature → List Text
event_names sig = map (λ (e : SigEvent). e.name) sig.events

-- what may get values at data ports
abbrev pub port_targets : List SigPort → Targets
port_targets ports = record { names = map (λ (p : SigPort). p.name) ports; widths = map (λ (p : SigPort). p.width) ports }

-- how many rows a delay keeps starts apart; 0 where it is not fixed
abbrev pub rows_of : Delay → ℕ
rows_of (Fixed rows) = rows
rows_of Gap = 0
rows_of End = 0

-- the ports whose intervals go by the event with this number
abbrev pub ports_after : ℕ → List SigPort → List SigPort
ports_after event ports = filter (λ (p : SigPort). p.from.event == event) ports

-- the greatest end among the intervals of these ports
abbrev pub greatest_end : List SigPort → ℕ
greatest_end ports = fold (λ n (p : SigPort). max n p.to.plus) 0 ports

-- an interface port's interval ends a row after the start
abbrev pub interface_end : Option Text → ℕ
interface_end None = 0
interface_end (Some name) = 1

-- the event with this number
abbrev pub event_of : Signature → ℕ → SigEvent → Event
event_of sig number e =
    record {
      delay = rows_of e.delay;
      end = max (max (greatest_end (ports_after number sig.ins)) (greatest_end (ports_after number sig.outs))) (interface_end e.go);
      inputs = port_targets (ports_after number sig.ins);
    }

-- these events, numbered from here on
abbrev pub events_from : Signature → ℕ → List SigEvent → List Event
events_from sig number [] = []
events_from sig number (e ∷ others) = event_of sig number e ∷ events_from sig (number + 1) others

-- the events of a signature
abbrev pub events_of : Signature → EventList
events_of sig = record { names = event_names sig; events = events_from sig 0 sig.events }

-- a delay of a component's event is fixed
abbrev pub IsFixed : Delay → Type 0
IsFixed (Fixed rows) = Unit {0}
IsFixed Gap = ⊥
IsFixed End = ⊥

-- the event's delay is fixed
abbrev pub HasFixedDelay : SigEvent → Type 0
HasFixedDelay e = IsFixed e.delay

-- ---- the same as the program holds it

abbrev pub event_seen : EventInputs → Event
event_seen e = record { delay = e.delay; end = e.end; inputs = record { names = e.names; widths = e.widths.items } }

abbrev pub events_seen : Events → EventList
events_seen e = record { names = e.names; events = map event_seen e.inputs.items }
