-- F14: the wire graph of a component, by reachability, and its loops. This project's.
use Rattle.std.specs.Prelude.{◌≡◌, ◌≢◌, ◌⊎◌, ℕ, true, List, [], ◌∷◌, reverse, slice_get, Some, Contains}
use Rattle.std.specs.Cmp.Lexicographic.{slice_cmp}
use Rattle.std.specs.Ordering.{nat_cmp}
use Rattle.std.specs.declared.cmp.Ordering.TheVariants.{Greater}
use Rattle.hw_names.specs.Name.{Text, dotted, AreDistinct}
use Rattle.hw_prims.specs.Meaning.{is_through}
use Rattle.hw_prims.specs.declared.prim.Primitive.{Primitive}
use Rattle.fil_ast.specs.Items.{scope_after}
use Rattle.fil_ast.specs.Primitives.{filament_primitive}
use Rattle.fil_ast.specs.Scope.{Scope, Instance, Invocation, instance_signature, invocation_named}
use Rattle.fil_ast.specs.Signature.{SigPort, Signature}
use Rattle.fil_ast.specs.Tree.{Connect, Component, Design, ValueTree, InputValue, OutputValue}

-- everything that a component's body says
abbrev pub whole_scope : Design → Component → Scope
whole_scope earlier c = scope_after earlier c c.body

-- the port that a value is read from: the component's own, or an output of an instance
pub data IsPortOf (scope : Scope) : ValueTree → Text → Type 0 where
  OwnInput : (name : Text) → IsPortOf scope (InputValue name) name
  ByInvocation : (name port : Text) (v : Invocation) → invocation_named scope.invocations name ≡ Some v →
      IsPortOf scope (OutputValue name port) (dotted v.inst port)

-- an output of an instance depends on an input of it within a row; `through name output input` says it of a component
pub data DependsWithin (through : Text → Text → Text → Type 0) (i : Instance) (output input : Text) : Type 0 where
  OfPrimitive : (prim : Primitive) → filament_primitive i.made i.params ≡ Some prim → is_through prim input output ≡ true →
      DependsWithin through i output input
  OfComponent : through i.made output input → DependsWithin through i output input

-- the port is that of an argument of an invocation, and the other is the port of the value that is given there
pub record ReadsByArgument (scope : Scope) (port other : Text) : Type 0 where
  pub invocation : Invocation
  pub invoked : Contains scope.invocations invocation
  pub signature : Signature
  pub signed : instance_signature scope invocation.inst ≡ Some signature
  pub place : ℕ
  pub value : ValueTree
  pub given : slice_get invocation.gives.args place ≡ Some value
  pub input : SigPort
  pub taken : slice_get signature.ins place ≡ Some input
  pub is_port : dotted invocation.inst input.name ≡ port
  pub is_other : IsPortOf scope value other

-- the port is an output of the component, and the other is the port of a value that is connected to it
pub record ReadsByConnection (scope : Scope) (port other : Text) : Type 0 where
  pub value : ValueTree
  pub connected : Contains scope.comp.body (Connect port value)
  pub is_other : IsPortOf scope value other

-- the ports are an output and an input of an instance, and the one depends on the other within a row
pub record ReadsByInstance (through : Text → Text → Text → Type 0) (scope : Scope) (port other : Text) : Type 0 where
  pub instance : Instance
  pub has : Contains scope.instances instance
  pub signature : Signature
  pub signed : instance_signature scope instance.name ≡ Some signature
  pub input : SigPort
  pub output : SigPort
  pub has_input : Contains signature.ins input
  pub has_output : Contains signature.outs output
  pub depends : DependsWithin through instance output.name input.name
  pub is_port : dotted instance.name output.name ≡ port
  pub is_other : dotted instance.name input.name ≡ other

-- within a row a port of the component reads another
pub data ReadsPort (through : Text → Text → Text → Type 0) (scope : Scope) (port other : Text) : Type 0 where
  ByArgument : ReadsByArgument scope port other → ReadsPort through scope port other
  ByConnection : ReadsByConnection scope port other → ReadsPort through scope port other
  ByInstance : ReadsByInstance through scope port other → ReadsPort through scope port other

-- the port reads the other, straight or over ports between
pub data Reaches (through : Text → Text → Text → Type 0) (scope : Scope) (other : Text) : Text → Type 0 where
  Straight : (port : Text) → ReadsPort through scope port other → Reaches through scope other port
  Over : (port between : Text) → ReadsPort through scope port between → Reaches through scope other between → Reaches through scope other port

-- of these components, the latest first: an output of the one with the name reaches an input of it, over those before
abbrev pub through_of : List Component → Text → Text → Text → Type 0
through_of [] name output input = ⊥
through_of (c ∷ before) name output input =
    ((name ≡ c.name) × Reaches (through_of before) (whole_scope (reverse before) c) input output) ⊎ through_of before name output input

-- the relation of the components before one
abbrev pub through_before : Design → Text → Text → Text → Type 0
through_before earlier = through_of (reverse earlier)

-- each port of the list reads the next, and the last reads `back`
abbrev pub ReadsAlong : Design → Component → List Text → Text → Type 0
ReadsAlong earlier c [] back = Unit {0}
ReadsAlong earlier c (p ∷ []) back = ReadsPort (through_before earlier) (whole_scope earlier c) p back
ReadsAlong earlier c (p ∷ q ∷ ports) back = ReadsPort (through_before earlier) (whole_scope earlier c) p q × ReadsAlong earlier c (q ∷ ports) back

-- a cycle of distinct ports from this one
pub record IsLoop (earlier : Design) (c : Component) (first : Text) (others : List Text) : Type 0 where
  pub along : ReadsAlong earlier c (first ∷ others) first
  pub distinct : AreDistinct (first ∷ others)

-- the loop starts with the least port, by bytes, that lies on one
pub record IsLeastLoop (earlier : Design) (c : Component) (first : Text) (others : List Text) : Type 0 where
  pub is_loop : IsLoop earlier c first others
  pub least : (port : Text) (ports : List Text) → IsLoop earlier c port ports → slice_cmp nat_cmp first port ≢ Greater

-- F14: there is no loop
abbrev pub HasNoLoop : Design → Component → Type 0
HasNoLoop earlier c = (first : Text) (others : List Text) → IsLoop earlier c first others → ⊥
