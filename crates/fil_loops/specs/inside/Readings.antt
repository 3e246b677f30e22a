-- Which ports read which within a row by each statement of a component. This project's.
use Rattle.std.specs.Prelude.{◌≡◌, ◌⊎◌, ℕ, List, slice_get, Option, Some, None, option_map, Contains}
use Rattle.hw_names.specs.Name.{Text, dotted}
use Rattle.fil_ast.specs.Scope.{Scope, Instance, Invocation, instance_signature, invocation_named}
use Rattle.fil_ast.specs.Signature.{SigPort, Signature}
use Rattle.fil_ast.specs.Tree.{Statement, New, Call, Both, Connect, ValueTree, InputValue, OutputValue, Literal}
use Rattle.fil_ast.specs.Wires.{DependsWithin}

-- the port that a value is read from; a literal is read from none
abbrev pub port_of_value : Scope → ValueTree → Option Text
port_of_value scope (InputValue name) = Some name
port_of_value scope (OutputValue name port) = option_map (λ (v : Invocation). dotted v.inst port) (invocation_named scope.invocations name)
port_of_value scope (Literal width value) = None

-- argument k of an instance of this signature reads what is given to it
pub record ReadsArgument (scope : Scope) (inst : Text) (sig : Signature) (args : List ValueTree) (k : ℕ) (port other : Text) : Type 0 where
  pub arg : ValueTree
  pub input : SigPort
  pub given : slice_get args k ≡ Some arg
  pub taken : slice_get sig.ins k ≡ Some input
  pub is_port : dotted inst input.name ≡ port
  pub is_other : port_of_value scope arg ≡ Some other

-- the arguments of an invocation of the instance
abbrev pub ReadsGiven : Scope → Text → List ValueTree → Text → Text → Type 0
ReadsGiven scope inst args port other =
    (sig : Signature) × (instance_signature scope inst ≡ Some sig) × (k : ℕ) × ReadsArgument scope inst sig args k port other

-- an output of the instance reads an input on which it depends
pub record ReadsWithin (through : Text → Text → Text → Type 0) (i : Instance) (sig : Signature) (port other : Text) : Type 0 where
  pub input : SigPort
  pub output : SigPort
  pub ins : Contains sig.ins input
  pub outs : Contains sig.outs output
  pub depends : DependsWithin through i output.name input.name
  pub is_port : dotted i.name output.name ≡ port
  pub is_other : dotted i.name input.name ≡ other

abbrev pub ReadsMade : (Text → Text → Text → Type 0) → Scope → Instance → Text → Text → Type 0
ReadsMade through scope i port other = (sig : Signature) × (instance_signature scope i.name ≡ Some sig) × ReadsWithin through i sig port other

-- the connected output reads the value
abbrev pub ReadsValue : Scope → Text → ValueTree → Text → Text → Type 0
ReadsValue scope output value port other = (output ≡ port) × (port_of_value scope value ≡ Some other)

-- what a statement says of ports
abbrev pub ReadsBy : (Text → Text → Text → Type 0) → Scope → Statement → Text → Text → Type 0
ReadsBy through scope (New name made params) port other =
    ReadsMade through scope (record { name = name; made = made; params = params }) port other
ReadsBy through scope (Call name inst gives) port other = ReadsGiven scope inst gives.args port other
ReadsBy through scope (Both name made params gives) port other =
    ReadsMade through scope (record { name = name; made = made; params = params }) port other ⊎ ReadsGiven scope name gives.args port other
ReadsBy through scope (Connect output value) port other = ReadsValue scope output value port other

-- what statement k says
abbrev pub ReadsAt : (Text → Text → Text → Type 0) → Scope → List Statement → ℕ → Text → Text → Type 0
ReadsAt through scope body k port other = (s : Statement) × (slice_get body k ≡ Some s) × ReadsBy through scope s port other

-- an output of an instance reads input k
pub record ReadsEach (inst output : Text) (ins : List SigPort) (k : ℕ) (port other : Text) : Type 0 where
  pub input : SigPort
  pub taken : slice_get ins k ≡ Some input
  pub is_port : dotted inst output ≡ port
  pub is_other : dotted inst input.name ≡ other

-- output o of an instance reads each input
pub record ReadsAll (inst : Text) (sig : Signature) (o : ℕ) (port other : Text) : Type 0 where
  pub output : SigPort
  pub given : slice_get sig.outs o ≡ Some output
  pub k : ℕ
  pub reads : ReadsEach inst output.name sig.ins k port other
