-- F1 and F2: names are distinct, and what a name is used for exists. Filament, PLDI 2023; the numbers are this project's.
use Rattle.std.specs.Prelude.{◌≡◌, ◌⊎◌, ◌++◌, true, false, List, map, Contains, IsSome, All}
use Rattle.hw_names.specs.Name.{Text, AreDistinct}
use Rattle.fil_ast.specs.Primitives.{is_any_primitive, is_filament_primitive}
use Rattle.fil_ast.specs.Scope.{Scope, Instance, Invocation, instances_at, invocations_at, instance_named, input_of, output_of, result_of}
use Rattle.fil_ast.specs.Tree.{TimeAt, Event, Interface, DataPort, Giving, Statement, New, Call, Both, Connect, Component, Design, ValueTree, InputValue}
use Rattle.fil_ast.specs.Tree.{OutputValue, Literal}

abbrev pub event_names : Component → List Text
event_names c = map (λ (e : Event). e.name) c.events

abbrev pub port_names : Component → List Text
port_names c = map (λ (g : Interface). g.name) c.interfaces ++ map (λ (p : DataPort). p.name) c.ins ++ map (λ (p : DataPort). p.name) c.outs

abbrev pub component_names : Design → List Text
component_names comps = map (λ (c : Component). c.name) comps

-- F1 at the signature: the component's name is new and no primitive's, its events are distinct, and so are its ports
pub record HasNewNames (earlier : Design) (c : Component) : Type 0 where
  pub no_primitive : is_any_primitive c.name ≡ false
  pub new : ¬ Contains (component_names earlier) c.name
  pub events : AreDistinct (event_names c)
  pub ports : AreDistinct (port_names c)

abbrev pub instance_names : List Instance → List Text
instance_names instances = map (λ (i : Instance). i.name) instances

abbrev pub invocation_names : List Invocation → List Text
invocation_names invocations = map (λ (v : Invocation). v.name) invocations

-- F1 at a statement: its instance is new among instances, its invocation among ports and invocations
pub record MakesNewNames (scope : Scope) (s : Statement) : Type 0 where
  pub instances : All (λ (i : Instance). ¬ Contains (instance_names scope.instances) i.name) (instances_at s)
  pub invocations : All (λ (v : Invocation). ¬ Contains (port_names scope.comp ++ invocation_names scope.invocations) v.name) (invocations_at s)

abbrev pub NamesEvent : Component → Text → Type 0
NamesEvent c name = Contains (event_names c) name

-- F2 at the signature: every time and every interface port names an event
pub record NamesEvents (c : Component) : Type 0 where
  pub interfaces : All (λ (g : Interface). NamesEvent c g.event) c.interfaces
  pub ins : All (λ (p : DataPort). NamesEvent c p.from.event × NamesEvent c p.to.event) c.ins
  pub outs : All (λ (p : DataPort). NamesEvent c p.from.event × NamesEvent c p.to.event) c.outs

-- a Filament primitive, or an earlier component
abbrev pub IsMadeOf : Scope → Text → Type 0
IsMadeOf scope name = (is_filament_primitive name ≡ true) ⊎ Contains (component_names scope.comps) name

-- a data input, an output of an earlier invocation, or a literal
abbrev pub IsKnownValue : Scope → ValueTree → Type 0
IsKnownValue scope (InputValue name) = IsSome (input_of scope name)
IsKnownValue scope (OutputValue invocation port) = IsSome (result_of scope invocation port)
IsKnownValue scope (Literal width value) = Unit {0}

pub record GivesKnown (scope : Scope) (gives : Giving) : Type 0 where
  pub times : All (λ (t : TimeAt). NamesEvent scope.comp t.event) gives.times
  pub args : All (IsKnownValue scope) gives.args

-- F2 at a statement
abbrev pub UsesKnownNames : Scope → Statement → Type 0
UsesKnownNames scope (New name made params) = IsMadeOf scope made
UsesKnownNames scope (Both name made params gives) = IsMadeOf scope made × GivesKnown scope gives
UsesKnownNames scope (Call name inst gives) = IsSome (instance_named scope.instances inst) × GivesKnown scope gives
UsesKnownNames scope (Connect output value) = IsSome (output_of scope output) × IsKnownValue scope value
