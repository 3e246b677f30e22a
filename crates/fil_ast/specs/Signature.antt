-- Signatures: the events of a component or a primitive, with delays and interface ports, and its data ports with events, intervals and widths. Filament, PLDI
-- 2023.
use Rattle.std.specs.Prelude.{ℕ, suc, List, [], ◌∷◌, map, if◌then◌else◌, bytes_eq, Option, Some, None}
use Rattle.hw_names.specs.Name.{Text}
use Rattle.fil_ast.specs.Tree.{TimeAt, Event, Interface, DataPort, Component}

-- how many rows two starts of an event are apart at least
pub data Delay : Type 0 where
  Fixed : ℕ → Delay
  -- as each use says: a register's first event is held until its second
  Gap : Delay
  -- the second event of a register: it ends a use and triggers nothing
  End : Delay

pub record SigEvent : Type 0 where
  pub name : Text
  pub delay : Delay
  pub go : Option Text

-- so many rows after the event with this number
pub record Offset : Type 0 where
  pub event : ℕ
  pub plus : ℕ

-- a data port, in the interval [from, to)
pub record SigPort : Type 0 where
  pub name : Text
  pub from : Offset
  pub to : Offset
  pub width : ℕ

pub record Signature : Type 0 where
  pub events : List SigEvent
  pub ins : List SigPort
  pub outs : List SigPort

-- the number of the first event of a name, counted from 0; past the last where there is none
abbrev pub event_number : List Event → Text → ℕ
event_number [] name = 0
event_number (e ∷ events) name = if bytes_eq e.name name then 0 else suc (event_number events name)

-- the first interface port of an event
abbrev pub interface_of : List Interface → Text → Option Text
interface_of [] event = None
interface_of (g ∷ interfaces) event = if bytes_eq g.event event then Some g.name else interface_of interfaces event

abbrev pub offset_of : List Event → TimeAt → Offset
offset_of events t = record { event = event_number events t.event; plus = t.plus }

abbrev pub sig_port : List Event → DataPort → SigPort
sig_port events p =
    record { name = p.name; from = offset_of events p.from; to = offset_of events p.to; width = p.width }

abbrev pub sig_event : List Interface → Event → SigEvent
sig_event interfaces e = record { name = e.name; delay = Fixed e.delay; go = interface_of interfaces e.name }

-- the signature of a component
abbrev pub component_signature : Component → Signature
component_signature c =
    record {
      events = map (sig_event c.interfaces) c.events;
      ins = map (sig_port c.events) c.ins;
      outs = map (sig_port c.events) c.outs;
    }
