-- The plan of a component: its names resolved, invocation by invocation in text order. Filament, PLDI 2023; the form is this project's.
use Rattle.std.specs.Prelude.{List, [], ◌∷◌, ◌++◌, map, reverse, if◌then◌else◌, bytes_eq, Option, Some, None}
use Rattle.std.specs.Option.{option_map_or}
use Rattle.hw_names.specs.Name.{Text}
use Rattle.hw_prims.specs.Filament.{behaviour_of}
use Rattle.hw_prims.specs.Timed.{Behaviour}
use Rattle.fil_ast.specs.Behaviours.{component_behaviour, inputs_of_callee, timed_signature}
use Rattle.fil_ast.specs.Flow.{connected_to}
use Rattle.fil_ast.specs.Holds.{uses_of}
use Rattle.fil_ast.specs.Primitives.{filament_primitive}
use Rattle.fil_ast.specs.Scope.{Instance, Invocation, instance_named}
use Rattle.fil_ast.specs.Signature.{SigPort, component_signature, event_number}
use Rattle.fil_ast.specs.Timeline as timeline
use Rattle.fil_ast.specs.Tree as tree
use Rattle.fil_ast.specs.Tree.{Component, Design, ValueTree, InputValue, OutputValue}
use Rattle.fil_ast.specs.Wires.{whole_scope}
use Rattle.fil_lower.specs.inside.Plan.{Slot, Source, Input, Literal, Output, Use, Plan}

-- what is promised in the place of a name that means nothing: nothing
abbrev pub nothing_promised : Behaviour
nothing_promised = record { sig = record { events = []; ins = []; outs = [] }; flow = λ values output. 0 }

-- what the component of a name promises, of these components with the latest first
abbrev pub behaviour_named : List Component → Text → Behaviour
behaviour_named [] name = nothing_promised
behaviour_named (c ∷ before) name = if bytes_eq c.name name then component_behaviour (reverse before) c else behaviour_named before name

-- what an instance promises: what the primitive does that it is made of, or the component
abbrev pub behaviour_made : Design → Instance → Behaviour
behaviour_made earlier i = option_map_or behaviour_of (filament_primitive i.made i.params) (behaviour_named (reverse earlier) i.made)

abbrev pub callee_of : Design → Component → Text → Behaviour
callee_of earlier c inst = option_map_or (behaviour_made earlier) (instance_named (whole_scope earlier c).instances inst) nothing_promised

-- an invocation of this name, resolved
pub record Resolved : Type 0 where
  pub name : Text
  pub call : Use

abbrev pub call_named : List Resolved → Text → Option Use
call_named [] name = None
call_named (r ∷ known) name = if bytes_eq r.name name then Some r.call else call_named known name

abbrev pub output_of_call : Option Use → Text → Source
output_of_call None port = Literal 0
output_of_call (Some call) port = Output call.inst call.slots call.args port

-- an argument that names an invocation stands for that invocation, with its arguments below it
abbrev pub source_of : List Resolved → ValueTree → Source
source_of known (InputValue name) = Input name
source_of known (OutputValue invocation port) = output_of_call (call_named known invocation) port
source_of known (tree.Literal width value) = Literal value

-- arguments are given to the callee's inputs in their order
abbrev pub args_of : List Resolved → List SigPort → List ValueTree → Text → Source
args_of known (p ∷ ports) (arg ∷ args) name = if bytes_eq p.name name then source_of known arg else args_of known ports args name
args_of known ports args name = Literal 0

abbrev pub slot_of : Component → timeline.Use → Slot
slot_of c u = record { target = u.event; event = event_number c.events u.at.event; plus = u.at.plus; hold = u.hold }

-- an invocation after these
abbrev pub resolved : Design → Component → List Resolved → Invocation → Resolved
resolved earlier c known v =
    record {
      name = v.name;
      call = record {
        inst = v.inst;
        slots = map (slot_of c) (uses_of (whole_scope earlier c) v);
        args = args_of known (inputs_of_callee earlier c v.inst) v.gives.args;
      };
    }

-- invocations in their order, each after those before it
abbrev pub resolved_after : Design → Component → List Resolved → List Invocation → List Resolved
resolved_after earlier c known [] = known
resolved_after earlier c known (v ∷ invocations) = resolved_after earlier c (known ++ resolved earlier c known v ∷ []) invocations

abbrev pub resolved_calls : Design → Component → List Resolved
resolved_calls earlier c = resolved_after earlier c [] (whole_scope earlier c).invocations

-- the plan of a component that stands after these
abbrev pub plan_of : Design → Component → Plan
plan_of earlier c =
    record {
      sig = timed_signature (component_signature c);
      callee = callee_of earlier c;
      uses = map (λ (r : Resolved). r.call) (resolved_calls earlier c);
      outputs = λ output. option_map_or (source_of (resolved_calls earlier c)) (connected_to c.body output) (Literal 0);
    }
