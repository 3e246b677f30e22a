-- What names mean in a component: instances, invocations, callees and values, each from what stands before. Filament, PLDI 2023.
use Rattle.std.specs.Prelude.{ℕ, List, [], ◌∷◌, map, find, if◌then◌else◌, bytes_eq, Option, Some, None, option_map, option_and_then}
use Rattle.hw_names.specs.Name.{Text}
use Rattle.fil_ast.specs.Primitives.{is_filament_primitive, primitive_signature}
use Rattle.fil_ast.specs.Signature.{SigPort, Signature, component_signature, sig_port}
use Rattle.fil_ast.specs.Tree.{Giving, Statement, New, Call, Both, Connect, Component, Design}

-- an instance, and what it is made of
pub record Instance : Type 0 where
  pub name : Text
  pub made : Text
  pub params : List ℕ

-- an invocation of an instance, and what it gives
pub record Invocation : Type 0 where
  pub name : Text
  pub inst : Text
  pub gives : Giving

abbrev pub instances_at : Statement → List Instance
instances_at (New name made params) = record { name = name; made = made; params = params } ∷ []
instances_at (Both name made params gives) = record { name = name; made = made; params = params } ∷ []
instances_at (Call name inst gives) = []
instances_at (Connect output value) = []

abbrev pub invocations_at : Statement → List Invocation
invocations_at (Call name inst gives) = record { name = name; inst = inst; gives = gives } ∷ []
invocations_at (Both name made params gives) = record { name = name; inst = name; gives = gives } ∷ []
invocations_at (New name made params) = []
invocations_at (Connect output value) = []

-- the component of a name: the first that has it
abbrev pub component_named : Design → Text → Option Component
component_named comps name = find (λ (c : Component). bytes_eq c.name name) comps

-- a component takes no parameters
abbrev pub bare_signature : List ℕ → Component → Option Signature
bare_signature [] c = Some (component_signature c)
bare_signature (p ∷ params) c = None

-- the signature of what a name with parameters means, among these components: a primitive's name means the primitive
abbrev pub signature_in : Design → Text → List ℕ → Option Signature
signature_in comps name params =
    if is_filament_primitive name then primitive_signature name params
    else option_and_then (bare_signature params) (component_named comps name)

abbrev pub instance_named : List Instance → Text → Option Instance
instance_named instances name = find (λ (i : Instance). bytes_eq i.name name) instances

abbrev pub invocation_named : List Invocation → Text → Option Invocation
invocation_named invocations name = find (λ (v : Invocation). bytes_eq v.name name) invocations

-- what stands before a statement, in its component and before that component
pub record Scope : Type 0 where
  pub comps : Design
  pub comp : Component
  pub instances : List Instance
  pub invocations : List Invocation

-- the signature of an instance
abbrev pub instance_signature : Scope → Text → Option Signature
instance_signature scope inst =
    option_and_then (λ (i : Instance). signature_in scope.comps i.made i.params) (instance_named scope.instances inst)

abbrev pub sig_port_named : List SigPort → Text → Option SigPort
sig_port_named ports name = find (λ (p : SigPort). bytes_eq p.name name) ports

-- an output of an invocation: the invocation and the callee's port
pub record Result : Type 0 where
  pub invocation : Invocation
  pub port : SigPort

abbrev pub result_at : Scope → Invocation → Text → Option Result
result_at scope v port =
    option_map (λ p. record { invocation = v; port = p }) (option_and_then (λ (s : Signature). sig_port_named s.outs port) (instance_signature scope v.inst))

abbrev pub result_of : Scope → Text → Text → Option Result
result_of scope invocation port = option_and_then (λ v. result_at scope v port) (invocation_named scope.invocations invocation)

-- a data input of the component
abbrev pub input_of : Scope → Text → Option SigPort
input_of scope name = sig_port_named (map (sig_port scope.comp.events) scope.comp.ins) name

abbrev pub output_of : Scope → Text → Option SigPort
output_of scope name = sig_port_named (map (sig_port scope.comp.events) scope.comp.outs) name
