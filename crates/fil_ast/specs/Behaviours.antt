-- What a component promises, and what it gives its instances. Filament, PLDI 2023.
use Rattle.std.specs.Prelude.{◌≡◌, ℕ, ◌+◌, ◌<◌, ◌==◌, ◌&&◌, false, List, [], ◌∷◌, map, flat_map, filter, reverse, take, slice_get, if◌then◌else◌, bytes_eq}
use Rattle.std.specs.Prelude.{Some, Contains}
use Rattle.std.specs.Option.{option_map_or}
use Rattle.hw_bits.specs.Values.{values_of}
use Rattle.hw_names.specs.Name.{Text, Path}
use Rattle.hw_prims.specs.Filament.{behaviour_of}
use Rattle.hw_prims.specs.Timed.{Delay, Fixed, Chosen, TimedEvent, TimedPort, TimedSignature, Values, Behaviour, Transaction}
use Rattle.hw_prims.specs.declared.prim.Primitive.{Primitive}
use Rattle.fil_ast.specs.Flow.{Named, value_named, value_in_body, with_values, component_flow, flow_of}
use Rattle.fil_ast.specs.Holds.{uses_of}
use Rattle.fil_ast.specs.Primitives.{filament_primitive, is_filament_primitive}
use Rattle.fil_ast.specs.Scope.{Instance, Invocation, instance_named, instance_signature}
use Rattle.fil_ast.specs.Signature as signature
use Rattle.fil_ast.specs.Signature.{SigEvent, SigPort, Signature, component_signature, event_number}
use Rattle.fil_ast.specs.Timeline.{Use}
use Rattle.fil_ast.specs.Transactions.{inputs_given}
use Rattle.fil_ast.specs.Tree.{Event, DataPort, Component, Design}
use Rattle.fil_ast.specs.Wires.{whole_scope}
use Rattle.fil_ast.specs.declared.tx.Tx.{Tx}

-- the delay of a component's event is a number
abbrev pub timed_delay : signature.Delay → Delay
timed_delay (signature.Fixed rows) = Fixed rows
timed_delay signature.Gap = Chosen
timed_delay signature.End = Chosen

abbrev pub timed_event : SigEvent → TimedEvent
timed_event e = record { delay = timed_delay e.delay; go = e.go }

-- a port of a component goes by one event
abbrev pub timed_port : SigPort → TimedPort
timed_port p = record { name = p.name; event = p.from.event; from = p.from.plus; to = p.to.plus; stays = false }

abbrev pub timed_signature : Signature → TimedSignature
timed_signature sig = record { events = map timed_event sig.events; ins = map timed_port sig.ins; outs = map timed_port sig.outs }

-- the component's inputs with these values
abbrev pub inputs_with : Component → Values → List Named
inputs_with c values = map (λ (p : DataPort). record { name = p.name; value = values p.name }) c.ins

-- what a component after these promises: its signature, and its flow
abbrev pub component_behaviour : Design → Component → Behaviour
component_behaviour earlier c =
    record {
      sig = timed_signature (component_signature c);
      flow = λ values output. value_named (component_flow (flow_of (reverse earlier)) c (map (λ (p : DataPort). values p.name) c.ins)) output;
    }

-- the value of an argument of a callee, on this event; 0 for inputs of other events
abbrev pub argument_named : ℕ → List SigPort → List ℕ → Text → ℕ
argument_named event (p ∷ ports) (v ∷ values) name = if bytes_eq p.name name && p.from.event == event then v else argument_named event ports values name
argument_named event ports values name = 0

-- the values that an invocation gives its callee's inputs, in a transaction with these values
abbrev pub arguments_in : Design → Component → Values → Invocation → List ℕ
arguments_in earlier c values v = map (value_in_body (flow_of (reverse earlier)) c.body (inputs_with c values)) v.gives.args

abbrev pub inputs_of_callee : Design → Component → Text → List SigPort
inputs_of_callee earlier c inst = option_map_or (λ (s : Signature). s.ins) (instance_signature (whole_scope earlier c) inst) []

-- what a transaction of the component gives an instance by this use of it in an invocation
abbrev pub inner_by : Design → Component → Transaction → Invocation → Use → Transaction
inner_by earlier c tx v u =
    record {
      event = u.event;
      start = tx.start + u.at.plus;
      hold = u.hold;
      values = argument_named u.event (inputs_of_callee earlier c v.inst) (arguments_in earlier c tx.values v);
    }

abbrev pub inner_of : Design → Component → Text → Transaction → Invocation → List Transaction
inner_of earlier c inst tx v =
    if bytes_eq v.inst inst
    then map (inner_by earlier c tx v) (filter (λ (u : Use). event_number c.events u.at.event == tx.event) (uses_of (whole_scope earlier c) v))
    else []

-- the transactions of an instance in transactions of its component: one for each event that an invocation triggers
abbrev pub inner_transactions : Design → Component → List Transaction → Text → List Transaction
inner_transactions earlier c txs inst = flat_map (λ tx. flat_map (inner_of earlier c inst tx) (whole_scope earlier c).invocations) txs

-- in transactions of component n, the instance at a path below it promises this behaviour and is given these transactions
pub data IsGiven (comps : Design) (b : Behaviour) (given : List Transaction) : ℕ → List Transaction → Path → Type 0 where
  Itself : (n : ℕ) (c : Component) → slice_get comps n ≡ Some c → b ≡ component_behaviour (take n comps) c → IsGiven comps b given n given []
  OfPrimitive : (n : ℕ) (txs : List Transaction) (c : Component) (inst : Text) (i : Instance) (prim : Primitive) → slice_get comps n ≡ Some c →
      instance_named (whole_scope (take n comps) c).instances inst ≡ Some i → filament_primitive i.made i.params ≡ Some prim → b ≡ behaviour_of prim →
      given ≡ inner_transactions (take n comps) c txs inst → IsGiven comps b given n txs (inst ∷ [])
  Below : (n m : ℕ) (txs : List Transaction) (c d : Component) (inst : Text) (i : Instance) (path : Path) → slice_get comps n ≡ Some c →
      instance_named (whole_scope (take n comps) c).instances inst ≡ Some i → is_filament_primitive i.made ≡ false → m < n → slice_get comps m ≡ Some d →
      d.name ≡ i.made → IsGiven comps b given m (inner_transactions (take n comps) c txs inst) path → IsGiven comps b given n txs (inst ∷ path)

-- the name of the component's event with this number
abbrev pub event_named : Component → ℕ → Text
event_named c number = option_map_or (λ (e : Event). e.name) (slice_get c.events number) []

abbrev pub delay_of : Component → ℕ → ℕ
delay_of c number = option_map_or (λ (e : Event). e.delay) (slice_get c.events number) 0

-- a program's transaction, as the component's ports carry it: the event is held for its delay, and its inputs have the values that are given
abbrev pub transaction_on : Component → Tx → Transaction
transaction_on c tx =
    record {
      event = tx.event;
      start = tx.start;
      hold = delay_of c tx.event;
      values = value_named (with_values c.ins (inputs_given (event_named c tx.event) c.ins (values_of tx.values.items)));
    }

-- a transaction has no values for inputs of other events
abbrev pub HasOwnValues : Behaviour → Transaction → Type 0
HasOwnValues b tx = (p : Text) → ((port : TimedPort) → Contains b.sig.ins port → port.name ≡ p → ¬ (port.event ≡ tx.event)) → tx.values p ≡ 0
