-- That a component whose body is gone through up to a statement is planned so far. This project's.
use Rattle.std.specs.Prelude.{◌≡◌, ℕ, List, [], ◌∷◌, ◌++◌, map, length, reverse, Contains, All, Some}
use Rattle.std.specs.List.{AllZip}
use Rattle.std.specs.Option.{unwrap_or}
use Rattle.hw_names.specs.Name.{Text, text_of}
use Rattle.hw_names.specs.declared.names.NameId.{NameId}
use Rattle.fil_ast.specs.Connections.{ConnectsOnce}
use Rattle.fil_ast.specs.Flow.{Named, connected_to, flow_of, value_in, with_values}
use Rattle.fil_ast.specs.Naming.{MakesNewNames, UsesKnownNames, invocation_names}
use Rattle.fil_ast.specs.Scope.{Invocation, Scope, instance_signature, instances_at, invocations_at}
use Rattle.fil_ast.specs.Signature.{SigPort, Signature}
use Rattle.fil_ast.specs.Tree.{DataPort, Statement, ValueTree, Literal, value_tree}
use Rattle.fil_ast.specs.Typing.{LiteralFits, KeepsNumbers, KeepsWidths, value_width}
use Rattle.fil_ast.specs.declared.tree.Value.{Value}
use Rattle.fil_flow.specs.inside.Body.{IsBody, IsSourceOf, data_names}
use Rattle.fil_flow.specs.Plans.{Shape, HasShape, HaveWidths, values_after}
use Rattle.fil_flow.specs.Shown.{component_shape, flow_at, port_widths}
use Rattle.fil_flow.specs.declared.earlier.Earlier.{Earlier}
use Rattle.fil_flow.specs.declared.plan.Call.{Call}
use Rattle.fil_flow.specs.declared.plan.Source.{Source}
use Rattle.fil_flow.specs.declared.planning.Planning.{Planning}

-- where the places have these widths, the arguments of each call have the widths of its callee's inputs, and then the places have those
abbrev pub CallsFit : List Shape → List ℕ → List Call → List ℕ → Type 0
CallsFit shapes widths [] then = widths ≡ then
CallsFit shapes widths (call ∷ calls) then =
    (shape : Shape) × HasShape shapes call.callee shape × HaveWidths widths call.args.items shape.ins × CallsFit shapes (widths ++ shape.outs) calls then

-- the value of an argument, or of what is connected, on these inputs and of the invocations so far
abbrev pub value_so_far : Scope → List Named → ValueTree → ℕ
value_so_far scope inputs = value_in (flow_of (reverse scope.comps)) scope.instances inputs (reverse scope.invocations)

-- after these calls the places have the widths and the values of what they hold
pub record ShowsCalls (scope : Scope) (held : List ValueTree) (calls : List Call) : Type 0 where
  pub widths : List ℕ
  pub fit : CallsFit (map component_shape scope.comps) (port_widths scope.comp.ins) calls widths
  pub held_widths : map (value_width scope) held ≡ map Some widths
  pub held_values : (args : List ℕ) → length args ≡ length scope.comp.ins
      → values_after (flow_at scope.comps) calls args ≡ map (value_so_far scope (with_values scope.comp.ins args)) held

-- what an output is connected to by these statements; a zero until it is connected
abbrev pub connected_or_zero : List Statement → DataPort → ValueTree
connected_or_zero done p = unwrap_or (connected_to done p.name) (Literal p.width 0)

-- the source gives what the output is connected to, in the output's width
pub record ShowsOutput (scope : Scope) (held : List ValueTree) (done : List Statement) (p : DataPort) (source : Source) : Type 0 where
  pub is_source : IsSourceOf held (connected_or_zero done p) source
  pub width : value_width scope (connected_or_zero done p) ≡ Some p.width

-- the component of this scope is planned up to the statement before which the scope is
pub record IsPlanning (earlier : Earlier) (scope : Scope) (done : List Statement) (planning : Planning) : Type 0 where
  pub held : List ValueTree
  pub body : IsBody earlier scope held planning.body
  pub calls : ShowsCalls scope held planning.calls.items
  pub out_names : planning.out_names ≡ data_names scope.comp.outs
  pub outs : AllZip (ShowsOutput scope held done) scope.comp.outs planning.outs.items

-- F1 to F4, and F9, at a statement
pub record KeepsStatement (scope : Scope) (done : List Statement) (s : Statement) : Type 0 where
  pub new : MakesNewNames scope s
  pub known : UsesKnownNames scope s
  pub widths : KeepsWidths scope s
  pub numbers : KeepsNumbers scope s
  pub once : ConnectsOnce scope done s

-- the scope after one more statement
abbrev pub grown : Scope → Statement → Scope
grown scope s =
    record { comps = scope.comps; comp = scope.comp; instances = scope.instances ++ instances_at s; invocations = scope.invocations ++ invocations_at s }

-- the invocation has these numbers for its name, its instance and its arguments
pub record Invokes (names : List Text) (name inst : NameId) (args : List Value) (v : Invocation) : Type 0 where
  pub name_of : v.name ≡ text_of names name
  pub inst_of : v.inst ≡ text_of names inst
  pub args_of : v.gives.args ≡ map (value_tree names) args

-- the invocation has a new name, an instance with a signature, and arguments of the widths of its inputs
pub record CanInvoke (scope : Scope) (v : Invocation) : Type 0 where
  pub new : ¬ Contains (invocation_names scope.invocations) v.name
  pub sig : Signature
  pub signed : instance_signature scope v.inst ≡ Some sig
  pub literals : All LiteralFits v.gives.args
  pub widths : map (value_width scope) v.gives.args ≡ map (λ (p : SigPort). Some p.width) sig.ins
