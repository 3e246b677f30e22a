-- F3 to F5: widths, numbers of times and arguments, and the shape of signatures. Filament, PLDI 2023; the numbers are this project's.
use Rattle.std.specs.Prelude.{◌≡◌, ℕ, ◌^◌, ◌<◌, ◌≤◌, List, length, map, slice_get, Option, Some, None, option_map, IsSome, IfSome, All, AllPairs}
use Rattle.hw_names.specs.Name.{Text, AreDistinct}
use Rattle.hw_bits.specs.declared.bits.TheConstants.{MAX_WIDTH}
use Rattle.hw_limits.specs.declared.limits.TheConstants.{MOST_EVENTS}
use Rattle.fil_ast.specs.Scope.{Scope, Result, signature_in, instance_signature, input_of, output_of, result_of}
use Rattle.fil_ast.specs.Signature.{Gap, SigEvent, SigPort, Signature}
use Rattle.fil_ast.specs.Tree.{TimeAt, Event, Interface, DataPort, Giving, Statement, New, Call, Both, Connect, Component, ValueTree, InputValue, OutputValue}
use Rattle.fil_ast.specs.Tree.{Literal}

abbrev pub IsWidth : ℕ → Type 0
IsWidth width = (1 ≤ width) × (width ≤ MAX_WIDTH)

-- F3 at the signature: data widths are 1 to 128
pub record HasWidths (c : Component) : Type 0 where
  pub ins : All (λ (p : DataPort). IsWidth p.width) c.ins
  pub outs : All (λ (p : DataPort). IsWidth p.width) c.outs

-- the signature of the callee of a statement, if it invokes one
abbrev pub callee : Scope → Statement → Option Signature
callee scope (New name made params) = None
callee scope (Call name inst gives) = instance_signature scope inst
callee scope (Both name made params gives) = signature_in scope.comps made params
callee scope (Connect output value) = None

abbrev pub value_width : Scope → ValueTree → Option ℕ
value_width scope (InputValue name) = option_map (λ (p : SigPort). p.width) (input_of scope name)
value_width scope (OutputValue invocation port) = option_map (λ (r : Result). r.port.width) (result_of scope invocation port)
value_width scope (Literal width value) = Some width

-- a literal has a width, and fits it
abbrev pub LiteralFits : ValueTree → Type 0
LiteralFits (InputValue name) = Unit {0}
LiteralFits (OutputValue invocation port) = Unit {0}
LiteralFits (Literal width value) = IsWidth width × (value < 2 ^ width)

-- literals fit, and each argument that has a port has its width
pub record GivesWidths (scope : Scope) (sig : Signature) (gives : Giving) : Type 0 where
  pub literals : All LiteralFits gives.args
  pub widths : (k : ℕ) (arg : ValueTree) (port : SigPort) → slice_get gives.args k ≡ Some arg → slice_get sig.ins k ≡ Some port →
      value_width scope arg ≡ Some port.width

-- parameters have the right number and range
abbrev pub HasParameters : Scope → Text → List ℕ → Type 0
HasParameters scope made params = IsSome (signature_in scope.comps made params)

-- F3 at a statement
abbrev pub KeepsWidths : Scope → Statement → Type 0
KeepsWidths scope (New name made params) = HasParameters scope made params
KeepsWidths scope (Both name made params gives) =
    HasParameters scope made params × IfSome (signature_in scope.comps made params) (λ sig. GivesWidths scope sig gives)
KeepsWidths scope (Call name inst gives) = IfSome (instance_signature scope inst) (λ sig. GivesWidths scope sig gives)
KeepsWidths scope (Connect output value) = LiteralFits value × IfSome (output_of scope output) (λ port. value_width scope value ≡ Some port.width)

-- a register's two times name one event
abbrev pub NamesOneEvent : Signature → List TimeAt → Type 0
NamesOneEvent sig times = (k : ℕ) (e : SigEvent) → slice_get sig.events k ≡ Some e → e.delay ≡ Gap → AllPairs (λ (s t : TimeAt). s.event ≡ t.event) times

pub record GivesEach (sig : Signature) (gives : Giving) : Type 0 where
  pub times : length gives.times ≡ length sig.events
  pub args : length gives.args ≡ length sig.ins
  pub one_event : NamesOneEvent sig gives.times

-- F4: a time for each event of the callee, and an argument for each data input
abbrev pub KeepsNumbers : Scope → Statement → Type 0
KeepsNumbers scope (New name made params) = Unit {0}
KeepsNumbers scope (Connect output value) = Unit {0}
KeepsNumbers scope (Call name inst gives) = IfSome (instance_signature scope inst) (λ sig. GivesEach sig gives)
KeepsNumbers scope (Both name made params gives) = IfSome (signature_in scope.comps made params) (λ sig. GivesEach sig gives)

-- both times of a port name one event, the first before the second
abbrev pub IsInterval : DataPort → Type 0
IsInterval p = (p.from.event ≡ p.to.event) × (p.from.plus < p.to.plus)

-- F5 at the signature
pub record HasShape (c : Component) : Type 0 where
  pub few : length c.events ≤ MOST_EVENTS
  pub delays : All (λ (e : Event). 1 ≤ e.delay) c.events
  pub one_interface : AreDistinct (map (λ (g : Interface). g.event) c.interfaces)
  pub one_bit : All (λ (g : Interface). g.width ≡ 1) c.interfaces
  pub ins : All IsInterval c.ins
  pub outs : All IsInterval c.outs
