use Rattle.std.proofs.Common.{List, Contains, is_some, ap, sym, subst, ◌∙◌}
use Rattle.std.specs.List.{All, AllZip}
use Rattle.hw_names.specs.Name.{Text}
use Rattle.hw_names.proofs.NameLemmas.{text_of-slice_get}
use Rattle.fil_ast.specs.Naming.{IsKnownValue, invocation_names}
use Rattle.fil_ast.specs.Scope.{instance_named}
use Rattle.fil_ast.specs.Tree.{ValueTree}
use Rattle.fil_flow.specs.inside.Body.{IsSourceOf}
use Rattle.fil_flow.specs.declared.plan.Call.{Call}
use Rattle.fil_flow.proofs.PlanningLemmas.{can_instance, known_values, planning_invocation}
use Rattle.fil_flow.proofs.planning.Planning.invoke.Goals as goal

pub callee-callee-requires : goal.callee-callee-requires
callee-callee-requires c =
    let (scope, done, v, known, invokes, can) = c.requires.known in
    let (i, found) = can_instance scope v can in
    let named = invokes.inst_of ∙ text_of-slice_get c.args.names.now c.args.inst c.text.result.now c.text.ensures in
    (c.args.earlier.now, scope, known.held, known.body, ap is_some (ap (instance_named scope.instances) (sym named) ∙ found))

pub sources-requires-clause-known : goal.sources-requires-clause-known
sources-requires-clause-known c =
    let (scope, done, v, known, invokes, can) = c.requires.known in
    let K : List ValueTree → Type 0 = All (IsKnownValue scope) in
    (scope, known.held, known.body, subst K invokes.args_of (known_values scope v.gives.args can.sig.ins can.widths))

pub add_invocation-requires : goal.add_invocation-requires
add_invocation-requires c =
    let (scope, done, v, known, invokes, can) = c.requires.known in
    let named = invokes.name_of ∙ text_of-slice_get c.args.names.now c.args.name c.text-2.result.now c.text-2.ensures in
    (scope, known.held, known.body, λ there. can.new (subst (λ (t : Text). Contains (invocation_names scope.invocations) t) (sym named) there))

pub returns : goal.returns
returns c scope done v known invokes can =
    let earlier = c.args.earlier.now in
    let names = c.args.names.now in
    let (i, found) = can_instance scope v can in
    let inst_named = invokes.inst_of ∙ text_of-slice_get names c.args.inst c.text.result.now c.text.ensures in
    let name_named = invokes.name_of ∙ text_of-slice_get names c.args.name c.text-2.result.now c.text-2.ensures in
    let call : Call = record { callee = c.callee-callee.result; args = c.in_ok-args.args } in
    let made = c.callee-callee.ensures earlier scope known.held i known.body (ap (instance_named scope.instances) (sym inst_named) ∙ found) in
    let Z : List ValueTree → Type 0 = λ values. AllZip (IsSourceOf known.held) values c.in_ok-args.args.items in
    let all = subst Z (sym invokes.args_of) (c.in_ok-args.ensures scope known.held known.body) in
    let is_body = c.in_ok-add_invocation.ensures scope known.held v i known.body name_named can.new found made in
    planning_invocation earlier scope done c.args.self.now known v i call c.add_invocation.new.self c.push.new.self found made can all is_body c.in_ok-push.ensures.items
