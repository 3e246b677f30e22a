use Rattle.std.proofs.Common.{◌≡◌, ◌<◌, ◌≤◌, List, get_or, length, take, slice_get, Some, refl, sym, ap, subst, ◌∙◌, arith}
use Rattle.std.proofs.lemmas.List.{length-map}
use Rattle.fil_ast.specs.Items.{scope_after}
use Rattle.fil_ast.specs.Limits.{KeepsStatementLimit}
use Rattle.fil_ast.specs.Tree.{component_tree, statement_tree}
use Rattle.fil_ast.specs.declared.tree.Stmt.{Stmt}
use Rattle.fil_place.proofs.GeneralLemmas.{at_mapped}
use Rattle.fil_place.proofs.ComponentLemmas.{new_names}
use Rattle.fil_place.proofs.BodyLemmas.{keeps_widths, makes_new, place_last, place_more, uses_known}
use Rattle.fil_place.proofs.body_tables.tables_of.Goals as goal

pub loop-stmt-init : goal.loop-stmt-init
loop-stmt-init c comps shows keeps =
    record { shows = c.in_ok-tables.ensures comps shows (new_names comps (component_tree c.args.names.now c.args.comp.now) keeps); is_comp = refl }

pub add_kept_statement-requires-clause-small : goal.add_kept_statement-requires-clause-small
add_kept_statement-requires-clause-small c =
    let body = c.args.comp.now.body.items in
    let k = c.loop-stmt.stmt-index in
    let stmt = c.stmt-item.result in
    let is : stmt ≡ get_or body k stmt = c.stmt-item.is ∙ ap (λ (xs : List Stmt). get_or xs k stmt) c.deref-stmt-items.ensures.value in
    let within : k < length body = omega (arith, ap length c.deref-stmt-items.ensures.value) in
    let K : Stmt → Type 0 = KeepsStatementLimit in
    subst K (sym is) (c.requires.small.body k stmt within)

pub loop-stmt-preserved : goal.loop-stmt-preserved
loop-stmt-preserved c comps shows keeps =
    let names = c.args.names.now in
    let comp = c.args.comp.now in
    let tree = component_tree names comp in
    let k = c.loop-stmt.stmt-index in
    let s = statement_tree names c.stmt-item.result in
    let at : slice_get tree.body k ≡ Some s = at_mapped (statement_tree names) comp.body.items c.deref-stmt-items.result.now k c.stmt-item.result c.deref-stmt-items.ensures.value c.loop-stmt-test.true c.stmt-item.is in
    let place = c.loop-stmt.invariant comps shows keeps in
    place_more names c.args.earlier.now comps comp c.add_kept_statement.new.tables k s at
    (c.in_ok-add_kept_statement.ensures (scope_after comps tree (take k tree.body)) place (makes_new comps tree keeps k s at) (uses_known comps tree keeps k s at) (keeps_widths comps tree keeps k s at))

pub returns : goal.returns
returns c comps shows keeps =
    let names = c.args.names.now in
    let comp = c.args.comp.now in
    let tree = component_tree names comp in
    let k = c.loop-stmt.stmt-index in
    let end : length tree.body ≤ k = omega (arith, length-map comp.body.items (statement_tree names), ap length c.deref-stmt-items.ensures.value) in
    place_last names c.args.earlier.now comps comp c.loop-stmt.tables k end (c.loop-stmt.invariant comps shows keeps)
