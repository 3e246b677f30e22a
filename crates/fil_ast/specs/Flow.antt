-- The flow of a component: what its outputs are on values of its inputs, by plain dataflow. This project's, after Filament, PLDI 2023.
use Rattle.std.specs.Prelude.{ℕ, List, [], ◌∷◌, codes, map, flat_map, reverse, if◌then◌else◌, bytes_eq, Option, Some, None}
use Rattle.std.specs.Option.{option_map_or}
use Rattle.hw_names.specs.Name.{Text}
use Rattle.hw_prims.specs.Filament.{primitive_flow}
use Rattle.hw_prims.specs.declared.prim.Primitive.{Primitive}
use Rattle.fil_ast.specs.Primitives.{filament_primitive}
use Rattle.fil_ast.specs.Scope.{Instance, Invocation, instances_at, instance_named, invocations_at}
use Rattle.fil_ast.specs.Tree.{DataPort, Statement, Connect, Component, Design, ValueTree, InputValue, OutputValue, Literal}

-- a port and its value
pub record Named : Type 0 where
  pub name : Text
  pub value : ℕ

-- the value of a port; 0 where there is none of the name
abbrev pub value_named : List Named → Text → ℕ
value_named [] name = 0
value_named (p ∷ ports) name = if bytes_eq p.name name then p.value else value_named ports name

-- each primitive of Filament has one output
abbrev pub primitive_outputs : Primitive → List ℕ → List Named
primitive_outputs prim args = record { name = codes "out"; value = primitive_flow prim args } ∷ []

-- the flow of what an instance is made of; `flow` is that of components
abbrev pub made_flow : (Text → List ℕ → List Named) → Instance → List ℕ → List Named
made_flow flow i args = option_map_or (λ prim. primitive_outputs prim args) (filament_primitive i.made i.params) (flow i.made args)

-- the flow of the instance of a name, of these instances; no outputs where there is none of the name
abbrev pub instance_flow : (Text → List ℕ → List Named) → List Instance → Text → List ℕ → List Named
instance_flow flow instances name args = option_map_or (λ i. made_flow flow i args) (instance_named instances name) []

-- the value of an argument, or of what is connected, on these inputs and of these invocations, the latest first:
-- an output of the latest that has the name is its instance's, on the values of its arguments, of the invocations before it
abbrev pub value_in : (Text → List ℕ → List Named) → List Instance → List Named → List Invocation → ValueTree → ℕ
value_in flow instances inputs invocations (InputValue name) = value_named inputs name
value_in flow instances inputs invocations (Literal width value) = value
value_in flow instances inputs [] (OutputValue name port) = 0
value_in flow instances inputs (v ∷ before) (OutputValue name port) =
    if bytes_eq v.name name then value_named (instance_flow flow instances v.inst (map (value_in flow instances inputs before) v.gives.args)) port
    else value_in flow instances inputs before (OutputValue name port)

-- the value of an argument, or of what is connected, in a body on these inputs
abbrev pub value_in_body : (Text → List ℕ → List Named) → List Statement → List Named → ValueTree → ℕ
value_in_body flow body inputs = value_in flow (flat_map instances_at body) inputs (reverse (flat_map invocations_at body))

-- what the statements connect to an output
abbrev pub connected_to : List Statement → Text → Option ValueTree
connected_to [] output = None
connected_to (Connect name value ∷ body) output = if bytes_eq name output then Some value else connected_to body output
connected_to (s ∷ body) output = connected_to body output

-- ports with values, in their order
abbrev pub with_values : List DataPort → List ℕ → List Named
with_values (p ∷ ports) (v ∷ values) = record { name = p.name; value = v } ∷ with_values ports values
with_values ports values = []

-- each output of the component has the value that is connected to it
abbrev pub component_flow : (Text → List ℕ → List Named) → Component → List ℕ → List Named
component_flow flow c args =
    let value = value_in_body flow c.body (with_values c.ins args) in
    map (λ (p : DataPort). record { name = p.name; value = option_map_or value (connected_to c.body p.name) 0 }) c.outs

-- the flow of the component of a name, of these components with the latest first; none where there is none of the name
abbrev pub flow_of : List Component → Text → List ℕ → List Named
flow_of [] name args = []
flow_of (c ∷ before) name args = if bytes_eq c.name name then component_flow (flow_of before) c args else flow_of before name args

-- the values of a component's outputs, in their order, on values of its inputs
abbrev pub flow : Design → Component → List ℕ → List ℕ
flow comps c args = map (λ (p : Named). p.value) (flow_of (reverse comps) c.name args)
