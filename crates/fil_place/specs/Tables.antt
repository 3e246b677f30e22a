-- That the tables of a place show what its names mean. This project's.
use Rattle.std.specs.Prelude.{◌≡◌, ℕ, suc, List, [], ◌∷◌, ◌++◌, map, length, slice_get, slice_set, slice_index_or, if◌then◌else◌, bytes_eq, Option, Some}
use Rattle.std.specs.Prelude.{None, Vec, option_and_then}
use Rattle.std.specs.declared.alloc.Global.{Global}
use Rattle.hw_names.specs.Name.{Text, AreDistinct}
use Rattle.fil_ast.specs.Naming.{component_names, event_names, port_names, instance_names, invocation_names}
use Rattle.fil_ast.specs.Scope.{Scope, Instance, Invocation, instances_at, invocations_at, instance_signature, signature_in}
use Rattle.fil_ast.specs.Signature.{Signature, component_signature}
use Rattle.fil_ast.specs.Tree.{TimeAt, Statement, New, Call, Both, Connect, Design, component_tree}
use Rattle.fil_ast.specs.declared.tree.FilComp.{FilComp}
use Rattle.fil_place.specs.Times.{AreTimes, known, time_shown}
use Rattle.fil_place.specs.declared.earlier.Earlier.{Earlier}
use Rattle.fil_place.specs.declared.tables.Made.{Made}
use Rattle.fil_place.specs.declared.tables.Made.TheVariants as made
use Rattle.fil_place.specs.declared.tables.Tables.{Tables}
use Rattle.fil_place.specs.declared.times.Offset.{Offset}

-- the components before one
pub record ShowsEarlier (earlier : Earlier) (comps : Design) : Type 0 where
  pub names : earlier.names ≡ component_names comps
  pub callees : earlier.callees.items ≡ map component_signature comps

-- the signature of what an instance is made of
abbrev pub made_signature : Earlier → Made → Option Signature
made_signature earlier (made.Component n) = slice_get earlier.callees.items n
made_signature earlier (made.Primitive callee) = Some callee

abbrev pub meant_signature : Design → Instance → Option Signature
meant_signature comps i = signature_in comps i.made i.params

abbrev pub instance_of : Invocation → Option Text
instance_of v = Some v.inst

-- the times of these offsets
abbrev pub times_shown : List Text → Vec Offset Global → List (Option TimeAt)
times_shown events at = map (time_shown events) at.items

abbrev pub times_of : Invocation → List (Option TimeAt)
times_of v = map known v.gives.times

-- the numbers of the invocations of an instance, counted from k
abbrev pub calls_from : ℕ → Text → List Invocation → List ℕ
calls_from k inst [] = []
calls_from k inst (v ∷ invocations) = if bytes_eq v.inst inst then k ∷ calls_from (suc k) inst invocations else calls_from (suc k) inst invocations

abbrev pub calls_of : List Invocation → Instance → List ℕ
calls_of invocations i = calls_from 0 i.name invocations

abbrev pub listed : Vec ℕ Global → List ℕ
listed numbers = numbers.items

-- the numbers of the invocations so far of the instance with this number
abbrev pub calls_at : Tables → ℕ → List ℕ
calls_at tables instance = slice_index_or (map listed tables.calls.items) instance []

-- what names mean in a scope
pub record Shows (earlier : Earlier) (tables : Tables) (scope : Scope) : Type 0 where
  pub components : ShowsEarlier earlier scope.comps
  pub events : tables.events ≡ event_names scope.comp
  pub ports : tables.ports ≡ port_names scope.comp ++ invocation_names scope.invocations
  pub instances : tables.instances ≡ instance_names scope.instances
  pub distinct : AreDistinct (instance_names scope.instances)
  pub made : map (made_signature earlier) tables.made.items ≡ map (meant_signature scope.comps) scope.instances
  pub invoked : map (slice_get tables.instances) tables.invoked.items ≡ map instance_of scope.invocations
  pub times : map (times_shown tables.events) tables.times.items ≡ map times_of scope.invocations
  pub calls : map listed tables.calls.items ≡ map (calls_of scope.invocations) scope.instances

-- the scope after one more statement
abbrev pub grown : Scope → Statement → Scope
grown scope s =
    record { comps = scope.comps; comp = scope.comp; instances = scope.instances ++ instances_at s; invocations = scope.invocations ++ invocations_at s }

-- the tables show what names mean at a place of this component
pub record IsPlace (names : List Text) (earlier : Earlier) (comp : FilComp) (tables : Tables) (scope : Scope) : Type 0 where
  pub shows : Shows earlier tables scope
  pub is_comp : scope.comp ≡ component_tree names comp

-- the signature of what a statement makes or invokes
abbrev pub signature_at : Scope → Statement → Option Signature
signature_at scope (New name made params) = signature_in scope.comps made params
signature_at scope (Call name inst gives) = instance_signature scope inst
signature_at scope (Both name made params gives) = signature_in scope.comps made params
signature_at scope (Connect output value) = None

-- what the instance of a statement is made of: none where it makes none, or its parameters are wrong
abbrev pub IsMadeAt : Earlier → Design → Option Made → Statement → Type 0
IsMadeAt earlier comps made (New name of params) = option_and_then (made_signature earlier) made ≡ signature_in comps of params
IsMadeAt earlier comps made (Both name of params gives) = option_and_then (made_signature earlier) made ≡ signature_in comps of params
IsMadeAt earlier comps made (Call name inst gives) = made ≡ None
IsMadeAt earlier comps made (Connect output value) = made ≡ None

-- these offsets are the times that the statement gives
abbrev pub AreTimesOf : List Text → List Offset → Statement → Type 0
AreTimesOf events at (New name made params) = Unit {0}
AreTimesOf events at (Connect output value) = Unit {0}
AreTimesOf events at (Call name inst gives) = AreTimes events at gives.times
AreTimesOf events at (Both name made params gives) = AreTimes events at gives.times

-- a new instance stands last, without invocations
pub record AddsInstance (old new : Tables) (name : Text) (made : Made) : Type 0 where
  pub instances : new.instances ≡ old.instances ++ name ∷ []
  pub made_of : new.made.items ≡ old.made.items ++ made ∷ []
  pub calls : map listed new.calls.items ≡ map listed old.calls.items ++ [] ∷ []
  pub events : new.events ≡ old.events
  pub ports : new.ports ≡ old.ports
  pub invoked : new.invoked.items ≡ old.invoked.items
  pub times : new.times.items ≡ old.times.items
  pub connected : new.connected ≡ old.connected

-- a new invocation stands last, with its times, and last among those of its instance
pub record AddsInvocation (old new : Tables) (name : Text) (instance : ℕ) (at : Vec Offset Global) : Type 0 where
  pub ports : new.ports ≡ old.ports ++ name ∷ []
  pub invoked : new.invoked.items ≡ old.invoked.items ++ instance ∷ []
  pub times : new.times.items ≡ old.times.items ++ at ∷ []
  pub calls : map listed new.calls.items ≡ slice_set (map listed old.calls.items) instance
      (slice_index_or (map listed old.calls.items) instance [] ++ length old.invoked.items ∷ [])
  pub events : new.events ≡ old.events
  pub instances : new.instances ≡ old.instances
  pub made : new.made.items ≡ old.made.items
  pub connected : new.connected ≡ old.connected
