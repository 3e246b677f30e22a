use Rattle.std.proofs.Common.{◌≡◌, ◌+◌, ◌<◌, ◌≤◌, ℕ, List, get_or, length, take, slice_get, Some, sym, ap, subst, ◌∙◌, arith}
use Rattle.std.proofs.lemmas.Bool.Decides.{not_from_Decides}
use Rattle.std.proofs.lemmas.List.{length-map}
use Rattle.fil_ast.specs.Items.{scope_after}
use Rattle.fil_ast.specs.Limits.{KeepsStatementLimit}
use Rattle.fil_ast.specs.Tree.{component_tree, statement_tree}
use Rattle.fil_ast.specs.declared.tree.Stmt.{Stmt}
use Rattle.fil_rules.specs.FirstItem.{ItemIs}
use Rattle.fil_place.proofs.GeneralLemmas.{at_mapped}
use Rattle.fil_rules.proofs.ItemLemmas.{one_more, all_kept, statement_ends, body_ends, stands_more, stands_last}
use Rattle.fil_rules.proofs.component.judge_body.Goals as goal

pub returns-in-Err-clause-broken : goal.returns-in-Err-clause-broken
returns-in-Err-clause-broken c comps start first =
    let names = c.args.around.now.names.now in
    let comp = c.args.around.now.comp.now in
    let tree = component_tree names comp in
    let k = c.loop-stmt.stmt-index in
    let s = statement_tree names c.stmt-item.result in
    let before = take k tree.body in
    let at : slice_get tree.body k ≡ Some s = at_mapped (statement_tree names) comp.body.items c.deref-stmt-items.result.now k c.stmt-item.result c.deref-stmt-items.ensures.value c.loop-stmt-test.true c.stmt-item.is in
    let least = c.in-Err.ensures.broken (scope_after comps tree before) before (c.loop-stmt.invariant.stands comps start) in
    let I : ℕ → Type 0 = λ n. ItemIs n c.in-Err.end c.at_item.result in
    let item : c.loop-stmt.item + 1 ≡ k + 1 = ap (λ n. n + 1) c.loop-stmt.invariant.counted in
    statement_ends comps tree k s c.in-Err.end c.at_item.result at (c.loop-stmt.invariant.kept comps start first) least (subst I item c.at_item.ensures)

pub judge_statement-requires-clause-small : goal.judge_statement-requires-clause-small
judge_statement-requires-clause-small c =
    let body = c.args.around.now.comp.now.body.items in
    let k = c.loop-stmt.stmt-index in
    let stmt = c.stmt-item.result in
    let is : stmt ≡ get_or body k stmt = c.stmt-item.is ∙ ap (λ (xs : List Stmt). get_or xs k stmt) c.deref-stmt-items.ensures.value in
    let within : k < length body = omega (arith, ap length c.deref-stmt-items.ensures.value) in
    let K : Stmt → Type 0 = KeepsStatementLimit in
    subst K (sym is) (c.requires.small.body k stmt within)

pub loop-stmt-preserved : goal.loop-stmt-preserved
loop-stmt-preserved c =
    let names = c.args.around.now.names.now in
    let comp = c.args.around.now.comp.now in
    let tree = component_tree names comp in
    let k = c.loop-stmt.stmt-index in
    let s = statement_tree names c.stmt-item.result in
    let before = take k tree.body in
    let at : slice_get tree.body k ≡ Some s = at_mapped (statement_tree names) comp.body.items c.deref-stmt-items.result.now k c.stmt-item.result c.deref-stmt-items.ensures.value c.loop-stmt-test.true c.stmt-item.is in
    record {
      counted = ap (λ n. n + 1) c.loop-stmt.invariant.counted;
      stands = λ comps start.
          stands_more names c.args.around.now.earlier.now comps comp c.judge_statement.new.tables k s at
          (c.in-Ok.ensures.next (scope_after comps tree before) before (c.loop-stmt.invariant.stands comps start));
      kept = λ comps start first.
          one_more comps tree k s at (c.loop-stmt.invariant.kept comps start first)
          (c.in-Ok.ensures.kept (scope_after comps tree before) before (c.loop-stmt.invariant.stands comps start));
    }

-- the tables show the whole body
pub returns-clause-tables : goal.returns-clause-tables
returns-clause-tables c comps start =
    let names = c.args.around.now.names.now in
    let comp = c.args.around.now.comp.now in
    let tree = component_tree names comp in
    let end : length tree.body ≤ c.loop-stmt.stmt-index = omega (arith, length-map comp.body.items (statement_tree names), ap length c.deref-stmt-items.ensures.value) in
    (stands_last names c.args.around.now.earlier.now comps comp c.loop-stmt.tables c.loop-stmt.stmt-index end (c.loop-stmt.invariant.stands comps start)).place

pub returns-clause-kept : goal.returns-clause-kept
returns-clause-kept c comps start first =
    let names = c.args.around.now.names.now in
    let comp = c.args.around.now.comp.now in
    let tree = component_tree names comp in
    let k = c.loop-stmt.stmt-index in
    let end : length tree.body ≤ k = omega (arith, length-map comp.body.items (statement_tree names), ap length c.deref-stmt-items.ensures.value) in
    let stands = stands_last names c.args.around.now.earlier.now comps comp c.loop-stmt.tables k end (c.loop-stmt.invariant.stands comps start) in
    all_kept comps tree k end (c.loop-stmt.invariant.kept comps start first) ((c.connects_all.ensures stands.connected).0 c.if-not-connects_all.false)

pub returns-then-not-connects_all-clause-broken : goal.returns-then-not-connects_all-clause-broken
returns-then-not-connects_all-clause-broken c comps start first =
    let names = c.args.around.now.names.now in
    let comp = c.args.around.now.comp.now in
    let tree = component_tree names comp in
    let k = c.loop-stmt.stmt-index in
    let end : k ≡ length tree.body = omega (arith, length-map comp.body.items (statement_tree names), ap length c.deref-stmt-items.ensures.value) in
    let stands = stands_last names c.args.around.now.earlier.now comps comp c.loop-stmt.tables k (omega (arith, end)) (c.loop-stmt.invariant.stands comps start) in
    let I : ℕ → Type 0 = λ n. ItemIs n c.breaks.result c.at_item-then-not-connects_all.result in
    let item : c.loop-stmt.item + 1 ≡ k + 1 = ap (λ n. n + 1) c.loop-stmt.invariant.counted in
    body_ends comps tree k c.breaks.result c.at_item-then-not-connects_all.result end (c.loop-stmt.invariant.kept comps start first)
    (not_from_Decides c.connects_all.result (c.connects_all.ensures stands.connected) c.if-not-connects_all.true)
    c.breaks.ensures (subst I item c.at_item-then-not-connects_all.ensures)
