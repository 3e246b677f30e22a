-- What a Filament component is lowered to: a bare Calyx component, with a cell for each instance, a shift register for each event with an interface port,
-- and arguments under guards of its bits. Filament, PLDI 2023; the form is this project's.
use Rattle.std.specs.Prelude.{◌≡◌, ℕ, zero, suc, ◌-◌, ◌==◌, ◌&&◌, false, List, [], ◌∷◌, ◌++◌, length, map, flat_map, filter, max, take, slice_get}
use Rattle.std.specs.Prelude.{slice_index_or, bytes_eq, Option, Some, None, option_map, option_and_then, unwrap_or, if◌then◌else◌, All, Contains}
use Rattle.std.specs.List.{fold}
use Rattle.std.specs.Option.{option_map_or}
use Rattle.hw_names.specs.Name.{Text, IsPlain, AreDistinct}
use Rattle.net_core.specs.Guard.{GuardTree, Reads, AnyOf, guards_of}
use Rattle.net_core.specs.declared.net.Src.{Src}
use Rattle.net_core.specs.declared.net.Src.TheVariants.{Port, Lit}
use Rattle.cal_ast.specs.Tree as calyx
use Rattle.cal_ast.specs.Tree.{PortName, own, port_of, CellDef, Assignment, Absent}
use Rattle.fil_ast.specs.Holds.{uses_of}
use Rattle.fil_ast.specs.Naming.{instance_names}
use Rattle.fil_ast.specs.Primitives.{table_name}
use Rattle.fil_ast.specs.Scope.{Scope, Instance, Invocation, instance_signature, invocation_named}
use Rattle.fil_ast.specs.Signature.{SigEvent, SigPort, Signature, event_number, interface_of}
use Rattle.fil_ast.specs.Timeline.{Interval, Use, interval_at}
use Rattle.fil_ast.specs.Tree.{Event, Statement, New, Call, Both, Connect, Component, Design, ValueTree, InputValue, OutputValue, Literal}
use Rattle.fil_ast.specs.Wires.{whole_scope}
use Rattle.fil_fsm.specs.Chain.{register, chain_sets, chain_bits}
use Rattle.fil_promise.specs.Refines.{IsGenerated, inputs_of, outputs_of}

-- ---- the bits of events

-- for each of a component's events, in their order, the registers of its shift register
abbrev pub Registers : Type 0
Registers = List (List Text)

-- a component and what its body says, with the registers of its events
pub record Lowering : Type 0 where
  pub scope : Scope
  pub registers : Registers

abbrev pub registers_of : Lowering → Text → List Text
registers_of l event = slice_index_or l.registers (event_number l.scope.comp.events event) []

-- the interface port of an event of the component
abbrev pub go_of : Lowering → Text → Option Text
go_of l event = interface_of l.scope.comp.interfaces event

-- the ports of an event's bits, the first of which is its interface port: bit i is 1 exactly i rows after a start of the event
abbrev pub bits_of : Lowering → Text → List PortName
bits_of l event = option_map_or (λ go. chain_bits (own go) (registers_of l event)) (go_of l event) []

abbrev pub bit_at : Lowering → Text → ℕ → PortName
bit_at l event i = slice_index_or (bits_of l event) i (own [])

-- so many bits from this one on
abbrev pub bits_from : Lowering → Text → ℕ → ℕ → List PortName
bits_from l event from zero = []
bits_from l event from (suc count) = bit_at l event from ∷ bits_from l event (suc from) count

-- the guard that one of these bits is 1; of no bits it is never true
abbrev pub any_of : List PortName → GuardTree PortName
any_of [] = Reads (Lit 1 0)
any_of (bit ∷ []) = Reads (Port bit)
any_of (bit ∷ next ∷ bits) = AnyOf (guards_of (map (λ p. Reads (Port p)) (bit ∷ next ∷ bits)))

-- ---- assignments

-- what a value is read from
abbrev pub lowered_value : Lowering → ValueTree → Src PortName
lowered_value l (InputValue name) = Port (own name)
lowered_value l (OutputValue invocation port) =
    Port (port_of (option_map_or (λ (v : Invocation). v.inst) (invocation_named l.scope.invocations invocation) []) port)
lowered_value l (Literal width value) = Lit width value

-- the rows in which an argument drives: those of the interval after a start, and all rows where the event has no interface port
abbrev pub during : Lowering → Interval → Option (GuardTree PortName)
during l i = option_map (λ go. any_of (bits_from l i.event i.from (i.to - i.from))) (go_of l i.event)

-- an argument drives its port of the instance
abbrev pub argument_set : Lowering → Invocation → SigPort → ValueTree → Assignment
argument_set l v port arg =
    record {
      dst = port_of v.inst port.name;
      guard = option_and_then (during l) (interval_at v.gives.times port);
      src = lowered_value l arg;
    }

-- arguments are given to the callee's inputs in their order
abbrev pub argument_sets : Lowering → Invocation → List SigPort → List ValueTree → List Assignment
argument_sets l v (port ∷ ports) (arg ∷ args) = argument_set l v port arg ∷ argument_sets l v ports args
argument_sets l v ports args = []

abbrev pub inputs_of_callee : Lowering → Text → List SigPort
inputs_of_callee l inst = option_map_or (λ (sig : Signature). sig.ins) (instance_signature l.scope inst) []

abbrev pub invocation_sets : Lowering → Invocation → List Assignment
invocation_sets l v = argument_sets l v (inputs_of_callee l v.inst) v.gives.args

-- the bits at which invocations start event k of an instance, in their order
abbrev pub starts_of : Lowering → Text → ℕ → Invocation → List PortName
starts_of l inst k v =
    map (λ (u : Use). bit_at l u.at.event u.at.plus) (filter (λ (u : Use). bytes_eq u.inst inst && u.event == k) (uses_of l.scope v))

abbrev pub starting_bits : Lowering → Text → ℕ → List PortName
starting_bits l inst k = flat_map (starts_of l inst k) l.scope.invocations

-- an interface port of an instance is 1 at these bits; nothing drives it where there are none
abbrev pub start_set : Text → Text → List PortName → List Assignment
start_set inst go [] = []
start_set inst go (bit ∷ bits) = record { dst = port_of inst go; guard = Some (any_of (bit ∷ bits)); src = Lit 1 1 } ∷ []

-- the interface ports of an instance's events from number k on
abbrev pub start_sets_from : Lowering → Text → ℕ → List SigEvent → List Assignment
start_sets_from l inst k [] = []
start_sets_from l inst k (e ∷ events) =
    option_map_or (λ go. start_set inst go (starting_bits l inst k)) e.go [] ++ start_sets_from l inst (suc k) events

abbrev pub start_sets : Lowering → Instance → List Assignment
start_sets l i = option_map_or (λ (sig : Signature). start_sets_from l i.name 0 sig.events) (instance_signature l.scope i.name) []

-- an output takes the value that it is connected to, in every row
abbrev pub connection_set : Lowering → Statement → List Assignment
connection_set l (Connect output value) = record { dst = own output; guard = None; src = lowered_value l value } ∷ []
connection_set l (New name made params) = []
connection_set l (Call name inst gives) = []
connection_set l (Both name made params gives) = []

-- the shift registers of these events
abbrev pub register_sets : Lowering → List Event → List Assignment
register_sets l events =
    flat_map (λ (e : Event). option_map_or (λ go. chain_sets (own go) (registers_of l e.name)) (go_of l e.name) []) events

abbrev pub lowered_sets : Lowering → List Assignment
lowered_sets l =
    register_sets l l.scope.comp.events ++ flat_map (invocation_sets l) l.scope.invocations
    ++ flat_map (start_sets l) l.scope.instances ++ flat_map (connection_set l) l.scope.comp.body

-- ---- the component

-- an instance is a cell, of the primitive of the table or of the component of its name
abbrev pub lowered_cell : Instance → CellDef
lowered_cell i = record { name = i.name; made = unwrap_or (table_name i.made) i.made; params = i.params; external = false }

-- a bare component of the same name and ports, interface ports first
abbrev pub lowered_component : Lowering → calyx.Component
lowered_component l =
    record {
      name = l.scope.comp.name;
      ins = inputs_of l.scope.comp;
      outs = outputs_of l.scope.comp;
      cells = map lowered_cell l.scope.instances ++ flat_map (map register) l.registers;
      groups = [];
      sets = lowered_sets l;
      control = Absent;
    }

-- ---- how long the shift registers are

-- the last bit that an argument wants of an event with an interface port
abbrev pub wants_in : Lowering → Text → Interval → List ℕ
wants_in l event i = if bytes_eq i.event event then (i.to - 1) ∷ [] else []

abbrev pub wanted_by : Lowering → Text → Invocation → List ℕ
wanted_by l event v =
    flat_map (λ port. option_map_or (wants_in l event) (interval_at v.gives.times port) []) (inputs_of_callee l v.inst)
    ++ map (λ (u : Use). u.at.plus) (filter (λ (u : Use). bytes_eq u.at.event event) (uses_of l.scope v))

-- the last bit that the component's body wants of an event; 0 of one without an interface port
abbrev pub last_bit : Lowering → Text → ℕ
last_bit l event =
    option_map_or (λ go. fold max 0 (flat_map (wanted_by l event) l.scope.invocations)) (go_of l event) 0

-- each event has as many registers as its last use wants, and no more
abbrev pub HasEnoughBits : Lowering → Type 0
HasEnoughBits l = map length l.registers ≡ map (λ (e : Event). last_bit l e.name) l.scope.comp.events

abbrev pub all_registers : Lowering → List Text
all_registers l = flat_map (λ names. names) l.registers

-- their names are distinct, and no instance's
pub record HasNewRegisters (l : Lowering) : Type 0 where
  pub generated : All (λ name. IsGenerated name × IsPlain name) (all_registers l)
  pub distinct : AreDistinct (all_registers l)
  pub fresh : All (λ name. ¬ Contains (instance_names l.scope.instances) name) (all_registers l)

-- a component, which stands after these, with these registers
abbrev pub lowering_with : Design → Component → Registers → Lowering
lowering_with earlier c registers = record { scope = whole_scope earlier c; registers = registers }

-- the component, which stands after these, is lowered to this one
pub record IsLoweredTo (earlier : Design) (c : Component) (low : calyx.Component) : Type 0 where
  pub registers : Registers
  pub enough : HasEnoughBits (lowering_with earlier c registers)
  pub new : HasNewRegisters (lowering_with earlier c registers)
  pub is : low ≡ lowered_component (lowering_with earlier c registers)

-- the design is lowered component by component, in their order
pub record IsLoweringOf (comps : Design) (design : calyx.Design) : Type 0 where
  pub count : length design ≡ length comps
  pub components : (n : ℕ) (c : Component) (low : calyx.Component) → slice_get comps n ≡ Some c → slice_get design n ≡ Some low →
      IsLoweredTo (take n comps) c low
