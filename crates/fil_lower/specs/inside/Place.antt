-- That tables show what the body of a component says, and the ports of its bits. This project's.
use Rattle.std.specs.Prelude.{◌≡◌, ℕ, ◌<◌, List, [], length, map, filter, flat_map, fold, max, take, slice_get, bytes_eq}
use Rattle.std.specs.Prelude.{Bool, Some, All, Contains, Vec}
use Rattle.std.specs.declared.alloc.Global.{Global}
use Rattle.std.specs.Option.{option_map_or}
use Rattle.hw_names.specs.Name.{Text, IsPlain, AreDistinct, KeepsTexts, text_of}
use Rattle.cal_ast.specs.Numbers.{CellHasNumbers, PortHasNumbers, SetHasNumbers}
use Rattle.cal_ast.specs.Tree.{PortName, Assignment, own, cell_tree, assignment_tree, port_tree}
use Rattle.cal_ast.specs.declared.tree.CalPort.{CalPort}
use Rattle.fil_ast.specs.Holds.{uses_of}
use Rattle.fil_ast.specs.Limits.{KeepsLimits}
use Rattle.fil_ast.specs.Naming.{NamesEvent, invocation_names}
use Rattle.fil_ast.specs.Numbers.{ComponentHasNumbers, IsNumberOf}
use Rattle.fil_ast.specs.Rules.{FilRules}
use Rattle.fil_ast.specs.Scope.{Scope, Invocation, instance_signature}
use Rattle.fil_ast.specs.Signature.{Signature, interface_of}
use Rattle.fil_ast.specs.Timeline as timeline
use Rattle.fil_ast.specs.Timeline.{interval_at}
use Rattle.fil_ast.specs.Tree.{Design, Event, ValueTree, InputValue, OutputValue, Literal, component_tree}
use Rattle.fil_ast.specs.Wires.{whole_scope}
use Rattle.fil_share.specs.Instances.{ShowsScope}
use Rattle.fil_share.specs.Uses.{Held, IsGoodUse, held_by, is_on, shown_use}
use Rattle.fil_share.specs.declared.uses.Use.{Use}
use Rattle.fil_fsm.specs.Chain.{chain_bits, chain_sets, register}
use Rattle.fil_promise.specs.Refines.{IsGenerated}
use Rattle.fil_fsm.specs.Registers.{PartsHaveNumbers}
use Rattle.fil_fsm.specs.declared.shift.FsmParts.{FsmParts}
use Rattle.fil_lower.specs.inside.Lowering.{Lowering, Registers, HasEnoughBits, bits_of, inputs_of_callee, last_bit, register_sets, wants_in}
use Rattle.fil_lower.specs.inside.Parts.{IsGoodPort, NamesAllPorts}
use Rattle.fil_lower.specs.declared.bits.EventBits.{EventBits}
use Rattle.fil_lower.specs.declared.body.Body.{Body}
use Rattle.fil_lower.specs.declared.calls.Calls.{Calls}
use Rattle.fil_lower.specs.declared.place.Place.{Place}

-- the table has the invocations, by name, each with the number of its instance
pub record ShowsCalls (names : List Text) (invocations : List Invocation) (calls : Calls) : Type 0 where
  pub named : calls.names ≡ invocation_names invocations
  pub insts : map (text_of names) calls.insts.items ≡ map (λ (v : Invocation). v.inst) invocations
  pub numbers : All (IsNumberOf names) calls.insts.items

-- the inputs of each instance are good
abbrev pub HasGoodPorts : Scope → Type 0
HasGoodPorts scope = (inst : Text) (sig : Signature) → instance_signature scope inst ≡ Some sig → All IsGoodPort sig.ins

-- the tables show a component of a design that keeps the rules, with everything that its body says
pub record ShowsBody (body : Body) (scope : Scope) : Type 0 where
  pub design : Design
  pub number : ℕ
  pub rules : FilRules design
  pub at : slice_get design number ≡ Some scope.comp
  pub whole : scope ≡ whole_scope (take number design) scope.comp
  pub comp : scope.comp ≡ component_tree body.names.now body.comp.now
  pub ports : HasGoodPorts scope
  pub numbers : ComponentHasNumbers body.names.now body.comp.now
  pub small : KeepsLimits body.comp.now
  pub instances : ShowsScope body.instances scope
  pub calls : ShowsCalls body.names.now scope.invocations body.calls
  pub uses : map (shown_use body.names.now) body.uses.items ≡ flat_map (held_by scope) scope.invocations
  pub good : All (IsGoodUse body.names.now) body.uses.items

-- ---- the bits that are wanted

-- the greatest of some numbers, and 0 of none
abbrev pub greatest : List ℕ → ℕ
greatest numbers = fold max 0 numbers

-- the last bits that arguments want of an event
abbrev pub wanted_by_ports : Lowering → Text → Invocation → List ℕ
wanted_by_ports l event v =
    flat_map (λ port. option_map_or (wants_in l event) (interval_at v.gives.times port) []) (inputs_of_callee l v.inst)

-- the bits at which uses on the event start
abbrev pub wanted_by_uses : Text → List Held → List ℕ
wanted_by_uses event helds = map (λ (h : Held). h.from) (filter (is_on event) helds)

-- ---- shift registers

-- nothing but what the body says
abbrev pub unregistered : Scope → Lowering
unregistered scope = record { scope = scope; registers = [] }

abbrev pub event_sets : Scope → Text → List Text → List Assignment
event_sets scope event registers = option_map_or (λ go. chain_sets (own go) registers) (interface_of scope.comp.interfaces event) []

abbrev pub event_bits : Scope → Text → List Text → List PortName
event_bits scope event registers = option_map_or (λ go. chain_bits (own go) registers) (interface_of scope.comp.interfaces event) []

-- names that were not there
pub record AreNew (old registers : List Text) : Type 0 where
  pub generated : All (λ name. IsGenerated name × IsPlain name) registers
  pub fresh : All (λ name. ¬ Contains old name) registers
  pub distinct : AreDistinct registers

-- the parts are the shift register of the event, with as many bits as the body wants
pub record ShowsEvent (old new : List Text) (scope : Scope) (event : Text) (parts : FsmParts) : Type 0 where
  pub registers : List Text
  pub count : length registers ≡ last_bit (unregistered scope) event
  pub cells : map (cell_tree new) parts.cells.items ≡ map register registers
  pub sets : map (assignment_tree new) parts.sets.items ≡ event_sets scope event registers
  pub bits : map (port_tree new) parts.bits.items ≡ event_bits scope event registers
  pub new_names : AreNew old registers
  pub numbers : PartsHaveNumbers new parts

abbrev pub bits_shown : List Text → Vec CalPort Global → List PortName
bits_shown names bits = map (port_tree names) bits.items

-- the ports of the bits of each event
pub record ShowsBits (names : List Text) (l : Lowering) (bits : List (Vec CalPort Global)) : Type 0 where
  pub are : map (bits_shown names) bits ≡ map (λ (e : Event). bits_of l e.name) l.scope.comp.events
  pub numbers : All (λ (b : Vec CalPort Global). All (PortHasNumbers names) b.items) bits

-- these are the shift registers of the component
pub record ShowsRegisters (old names : List Text) (scope : Scope) (made : EventBits) : Type 0 where
  pub registers : Registers
  pub enough : HasEnoughBits (record { scope = scope; registers = registers })
  pub new_names : AreNew old (flat_map (λ few. few) registers)
  pub cells : map (cell_tree names) made.cells.items ≡ flat_map (map register) registers
  pub sets : map (assignment_tree names) made.sets.items ≡ register_sets (record { scope = scope; registers = registers }) scope.comp.events
  pub bits : ShowsBits names (record { scope = scope; registers = registers }) made.bits.items
  pub cell_numbers : All (CellHasNumbers names) made.cells.items
  pub set_numbers : All (SetHasNumbers names) made.sets.items

-- ---- where assignments are made

-- the names of the lowered design keep those of the Filament design, and the ports of the bits are known
pub record ShowsPlace (place : Place) (l : Lowering) : Type 0 where
  pub body : ShowsBody place.body.now l.scope
  pub kept : KeepsTexts place.body.now.names.now place.names.now
  pub ports : NamesAllPorts place.names.now l.scope
  pub enough : HasEnoughBits l
  pub bits : ShowsBits place.names.now l place.bits.now

-- an invocation of the component has the name
abbrev pub NamesInvocation : List Invocation → ValueTree → Type 0
NamesInvocation invocations (InputValue name) = Unit {0}
NamesInvocation invocations (OutputValue invocation port) = Contains (invocation_names invocations) invocation
NamesInvocation invocations (Literal width value) = Unit {0}

-- ---- starts

abbrev pub is_of : List Text → Text → Use → Bool
is_of names inst u = bytes_eq (text_of names u.inst) inst

-- the numbers are those of the uses of the instance, in their order
abbrev pub AreUsesOf : List Text → List Use → Text → List ℕ → Type 0
AreUsesOf names uses inst numbers = map (slice_get uses) numbers ≡ map (λ (u : Use). Some u) (filter (is_of names inst) uses)

-- for each instance, by its number, the numbers of its uses
pub record ShowsUses (names : List Text) (uses : List Use) (instances : List Text) (groups : List (List ℕ)) : Type 0 where
  pub all : length groups ≡ length instances
  pub each :
      (n : ℕ) (inst : Text) (numbers : List ℕ) → slice_get instances n ≡ Some inst → slice_get groups n ≡ Some numbers
      → AreUsesOf names uses inst numbers

-- each use of this event of the instance starts at a bit
abbrev pub Starts : Lowering → Text → ℕ → Type 0
Starts l inst event =
    (v : Invocation) (u : timeline.Use) → Contains l.scope.invocations v → Contains (uses_of l.scope v) u → u.inst ≡ inst → u.event ≡ event
    → NamesEvent l.scope.comp u.at.event × (u.at.plus < length (bits_of l u.at.event))
