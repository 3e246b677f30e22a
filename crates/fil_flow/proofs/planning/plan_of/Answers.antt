use Rattle.std.proofs.Common.{◌≡◌, ◌<◌, ◌≤◌, ℕ, List, length, map, take, slice_get, get_or, Some, option_map, refl, sym, ap, subst, ◌∙◌, arith}
use Rattle.std.proofs.lemmas.List.{length-map, take_all}
use Rattle.std.proofs.lemmas.Option.{slice_get-map, slice_get_read}
use Rattle.fil_ast.specs.Items.{TheSignature, scope_after}
use Rattle.fil_ast.specs.Rules.{F1}
use Rattle.fil_ast.specs.Tree.{Statement, component_tree, statement_tree}
use Rattle.fil_ast.specs.declared.tree.Stmt.{Stmt}
use Rattle.fil_flow.specs.inside.Planning.{IsPlanning}
use Rattle.fil_flow.proofs.PlanningLemmas.{kept_at, planned, planning_step}
use Rattle.fil_flow.proofs.planning.plan_of.Goals as goal

pub new-requires-clause-wide : goal.new-requires-clause-wide
new-requires-clause-wide c =
    let (before, known, keeps) = c.requires.kept in
    keeps 0 TheSignature refl 2 F1 (omega arith)

pub loop-stmt-init : goal.loop-stmt-init
loop-stmt-init c before known keeps =
    c.in_ok-planning.ensures c.args.earlier.now before known (keeps 0 TheSignature refl 0 F1 (omega arith))

-- the statement at this place
statement_at : (f : Stmt → Statement) (stmts items : List Stmt) (k : ℕ) (stmt : Stmt)
    → items ≡ stmts → k < length items → stmt ≡ get_or items k stmt → slice_get (map f stmts) k ≡ Some (f stmt)
statement_at f stmts items k stmt same within is =
    slice_get-map f stmts k ∙ ap (λ (ss : List Stmt). option_map f (slice_get ss k)) (sym same) ∙ ap (option_map f) (slice_get_read items (length items) k stmt refl within is)

pub add-requires-clause-known : goal.add-requires-clause-known
add-requires-clause-known c =
    let (before, known, keeps) = c.requires.kept in
    let comp = component_tree c.args.names.now c.args.comp.now in
    let k = c.loop-stmt.stmt-index in
    let f = statement_tree c.args.names.now in
    let at = statement_at f c.args.comp.now.body.items c.deref-stmt-items.result.now k c.stmt-item.result c.deref-stmt-items.ensures.value c.loop-stmt-test.true c.stmt-item.is in
    (scope_after before comp (take k comp.body), take k comp.body, c.loop-stmt.invariant before known keeps, kept_at before comp k (f c.stmt-item.result) keeps at)

pub loop-stmt-preserved : goal.loop-stmt-preserved
loop-stmt-preserved c before known keeps =
    let comp = component_tree c.args.names.now c.args.comp.now in
    let k = c.loop-stmt.stmt-index in
    let f = statement_tree c.args.names.now in
    let at = statement_at f c.args.comp.now.body.items c.deref-stmt-items.result.now k c.stmt-item.result c.deref-stmt-items.ensures.value c.loop-stmt-test.true c.stmt-item.is in
    planning_step c.args.earlier.now before comp c.add.new.self k (f c.stmt-item.result) at
    (c.in_ok-add.ensures (scope_after before comp (take k comp.body)) (take k comp.body) (c.loop-stmt.invariant before known keeps) (kept_at before comp k (f c.stmt-item.result) keeps at))

pub returns : goal.returns
returns c before known keeps =
    let comp = component_tree c.args.names.now c.args.comp.now in
    let k = c.loop-stmt.stmt-index in
    let P : List Statement → Type 0 = λ done. IsPlanning c.args.earlier.now (scope_after before comp done) done c.loop-stmt.planning in
    let long : length comp.body ≤ k =
    omega (arith, length-map c.args.comp.now.body.items (statement_tree c.args.names.now), ap (length {A = Stmt}) c.deref-stmt-items.ensures.value, c.loop-stmt-test.false) in
    planned c.args.earlier.now before comp c.loop-stmt.planning _ (subst P (take_all k comp.body long) (c.loop-stmt.invariant before known keeps)) refl refl
