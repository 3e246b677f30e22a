-- What the names of a component's body mean as numbers: callees, and places whose values they stand for. This project's.
use Rattle.std.specs.Prelude.{◌≡◌, ℕ, ◌+◌, ◌-◌, ◌*◌, ◌^◌, ◌<◌, ◌≤◌, List, [], ◌∷◌, ◌++◌, codes, map, length, slice_get, slice_index_or, Some, None, All, IsSome}
use Rattle.std.specs.List.{AllZip}
use Rattle.hw_names.specs.Name.{Text, AreDistinct}
use Rattle.hw_prims.specs.Table.{IsMade}
use Rattle.fil_ast.specs.Naming.{component_names, instance_names, invocation_names}
use Rattle.fil_ast.specs.Primitives.{filament_primitive, table_name}
use Rattle.fil_ast.specs.Scope.{Instance, Invocation, Scope, instance_named, signature_in}
use Rattle.fil_ast.specs.Tree.{DataPort, Component, Design, ValueTree, InputValue, OutputValue, Literal}
use Rattle.fil_flow.specs.declared.body.Body.{Body}
use Rattle.fil_flow.specs.declared.body.Invoked.{Invoked}
use Rattle.fil_flow.specs.declared.earlier.Earlier.{Earlier}
use Rattle.fil_flow.specs.declared.plan.Callee.{Callee}
use Rattle.fil_flow.specs.declared.plan.Callee.TheVariants as callee
use Rattle.fil_flow.specs.declared.plan.Source.{Source}
use Rattle.fil_flow.specs.declared.plan.Source.TheVariants as source

-- the names of ports, in their order
abbrev pub data_names : List DataPort → List Text
data_names ports = map (λ (p : DataPort). p.name) ports

-- the names of a component's outputs, which differ
abbrev pub output_names : Component → List Text
output_names c = data_names c.outs

-- the components before one, by their numbers: their names differ, and so do the names of each one's outputs
pub record IsEarlier (before : Design) (earlier : Earlier) : Type 0 where
  pub names : earlier.names ≡ component_names before
  pub outs : earlier.outs.items ≡ map output_names before
  pub distinct : AreDistinct (component_names before)
  pub distinct_outs : All (λ (c : Component). AreDistinct (output_names c)) before

-- what a name with parameters calls: a primitive's name calls the primitive, another the component of that name
abbrev pub IsCallee : Earlier → Text → List ℕ → Callee → Type 0
IsCallee earlier made params (callee.Primitive prim) = (filament_primitive made params ≡ Some prim) × IsMade prim
IsCallee earlier made params (callee.Component number) = (table_name made ≡ None) × (slice_get earlier.names number ≡ Some made)

-- the names of a callee's outputs; a primitive has one
abbrev pub outputs_of : Earlier → Callee → List Text
outputs_of earlier (callee.Primitive prim) = codes "out" ∷ []
outputs_of earlier (callee.Component number) = slice_index_or earlier.outs.items number []

-- the source gives the value, where the places hold these values
abbrev pub IsSourceOf : List ValueTree → ValueTree → Source → Type 0
IsSourceOf held value (source.Place place) = slice_get held place ≡ Some value
IsSourceOf held value (source.Literal bits) = value ≡ Literal bits.width bits.value

-- what an instance is made of
abbrev pub IsCalleeOf : Earlier → Instance → Callee → Type 0
IsCalleeOf earlier i callee = IsCallee earlier i.made i.params callee

-- what an invocation calls: what its instance is made of
abbrev pub Calls : Earlier → List Instance → Invocation → Invoked → Type 0
Calls earlier instances v invoked = (i : Instance) × (instance_named instances v.inst ≡ Some i) × IsCalleeOf earlier i invoked.callee

-- what names mean before a statement, where the places hold these values: the inputs, then the outputs of the invocations
pub record IsBody (earlier : Earlier) (scope : Scope) (held : List ValueTree) (body : Body) : Type 0 where
  pub components : IsEarlier scope.comps earlier
  pub inputs : body.inputs ≡ data_names scope.comp.ins
  pub instances : body.instances ≡ instance_names scope.instances
  pub signed : All (λ (i : Instance). IsSome (signature_in scope.comps i.made i.params)) scope.instances
  pub made : AllZip (IsCalleeOf earlier) scope.instances body.made.items
  pub invocations : body.invocations ≡ invocation_names scope.invocations
  pub invoked : AllZip (Calls earlier scope.instances) scope.invocations body.invoked.items
  pub input_places : (place : ℕ) (name : Text) → slice_get body.inputs place ≡ Some name → slice_get held place ≡ Some (InputValue name)
  pub output_places : (n k : ℕ) (invocation port : Text) (v : Invoked) → slice_get body.invocations n ≡ Some invocation →
      slice_get body.invoked.items n ≡ Some v
      → slice_get (outputs_of earlier v.callee) k ≡ Some port → slice_get held (v.first + k) ≡ Some (OutputValue invocation port)
  pub places : body.places ≡ length held
  -- an invocation has fewer than 2 ^ 32 outputs, and a place is a number of 64 bits
  pub few : body.places ≤ (2 ^ 32 - 1) * (1 + length body.invocations)
  pub fits : body.places < 2 ^ 64

-- the scope with one more instance
abbrev pub plus_instance : Scope → Instance → Scope
plus_instance scope i = record { comps = scope.comps; comp = scope.comp; instances = scope.instances ++ i ∷ []; invocations = scope.invocations }

-- the scope with one more invocation
abbrev pub plus_invocation : Scope → Invocation → Scope
plus_invocation scope v = record { comps = scope.comps; comp = scope.comp; instances = scope.instances; invocations = scope.invocations ++ v ∷ [] }

-- the values of an invocation's outputs of these names
abbrev pub outputs_from : Text → List Text → List ValueTree
outputs_from invocation ports = map (OutputValue invocation) ports
