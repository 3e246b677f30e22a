use Rattle.std.proofs.Common.{◌≡◌, ◌+◌, ◌++◌, List, [], ◌∷◌, All, map, take, option_map, rules, ap, ap₂, sym, subst, ◌∙◌}
use Rattle.std.specs.Prelude.{OnOk}
use Rattle.std.proofs.lemmas.List.{map-append, take_all, take_more}
use Rattle.std.proofs.lemmas.Result.{on_ok_weaker}
use Rattle.hw_names.specs.Name.{text_of}
use Rattle.cal_ast.specs.Items.{statements_in, statements_of}
use Rattle.cal_ast.specs.Numbers.{StatementHasNumbers}
use Rattle.cal_ast.specs.Tree.{GroupDef, Invoke, Statement, in_tree, out_tree, port_tree, statement_tree}
use Rattle.cal_ast.specs.declared.tree.Control.{Control, the_lemmas}
use Rattle.cal_ast.specs.declared.tree.InBind.{InBind}
use Rattle.cal_ast.specs.declared.tree.OutBind.{OutBind}
use Rattle.cal_place.specs.Around.{comp_at, design_at, names_at}
use Rattle.cal_wires.specs.Readings.{AddsGroups, group_invoked, groups_invoked}
use Rattle.cal_place.specs.Statements.{statements_from}
use Rattle.cal_wires.proofs.GainLemmas.{groups_both, groups_none}
use Rattle.cal_wires.proofs.InvokedLemmas.{groups_of_if, groups_of_next, groups_of_while}
use Rattle.cal_place.proofs.RowLemmas.{par_numbers, par_tree, seq_numbers, seq_tree}
use Rattle.cal_wires.proofs.readings.+add_statement.Goals as goal

pub add_statement-returns-in-Enable : goal.add_statement-returns-in-Enable
add_statement-returns-in-Enable t c =
    let p = c.args.place.now in
    let g = c.args.graph.now in
    subst (λ (s : Control). AddsGroups (design_at p) (comp_at p) (groups_invoked (design_at p) (comp_at p) (statements_in (statement_tree (names_at p) s))) g g) (sym c.in-Enable.is) (groups_none (design_at p) (comp_at p) g)

pub add_statement-add_statements-requires : goal.add_statement-add_statements-requires
add_statement-add_statements-requires t c =
    let names = names_at c.args.place.now in (
      search (rules, the_lemmas),
      (c.requires.names, subst (λ (ss : List Control). All (StatementHasNumbers names) ss) (sym c.deref-in-Seq.ensures.value) (seq_numbers names c.in-Seq.list (subst (λ (s : Control). StatementHasNumbers names s) c.in-Seq.is c.requires.statement))),
    )

pub add_statement-add_statements-requires-in-Par : goal.add_statement-add_statements-requires-in-Par
add_statement-add_statements-requires-in-Par t c =
    let names = names_at c.args.place.now in (
      search (rules, the_lemmas),
      (c.requires.names, subst (λ (ss : List Control). All (StatementHasNumbers names) ss) (sym c.deref-in-Par.ensures.value) (par_numbers names c.in-Par.list (subst (λ (s : Control). StatementHasNumbers names s) c.in-Par.is c.requires.statement))),
    )

pub add_statement-returns-in-Invoke : goal.add_statement-returns-in-Invoke
add_statement-returns-in-Invoke t c =
    let p = c.args.place.now in
    let names = names_at p in
    let d = design_at p in
    let same =
    ap₂ (λ (is : List InBind) (os : List OutBind). group_invoked d (comp_at p) (Invoke (text_of names c.in-Invoke.cell) (map (in_tree names) is) (map (out_tree names) os))) c.deref.ensures.value c.deref-in-Invoke.ensures.value
    ∙ ap (λ (s : Control). groups_invoked d (comp_at p) (statements_in (statement_tree names s))) (sym c.in-Invoke.is) in
    subst (λ (gs : List GroupDef). OnOk c.add_invoke.result (AddsGroups d (comp_at p) gs c.args.graph.now c.add_invoke.new.graph)) same c.add_invoke.ensures

pub add_statement-returns-in-Seq : goal.add_statement-returns-in-Seq
add_statement-returns-in-Seq t c =
    let p = c.args.place.now in
    let names = names_at p in
    let d = design_at p in
    let same : groups_invoked d (comp_at p) (statements_of (statements_from (map (statement_tree names) c.deref-in-Seq.result.now))) ≡ groups_invoked d (comp_at p) (statements_in (statement_tree names c.args.statement.now)) =
    ap (λ (ss : List Control). groups_invoked d (comp_at p) (statements_of (statements_from (map (statement_tree names) ss)))) c.deref-in-Seq.ensures.value
    ∙ ap (λ (s : Statement). groups_invoked d (comp_at p) (statements_in s)) (sym (seq_tree names c.in-Seq.list) ∙ ap (statement_tree names) (sym c.in-Seq.is)) in
    subst (λ (gs : List GroupDef). OnOk c.add_statements.result (AddsGroups d (comp_at p) gs c.args.graph.now c.add_statements.new.graph)) same c.add_statements.ensures

pub add_statement-returns-in-Par : goal.add_statement-returns-in-Par
add_statement-returns-in-Par t c =
    let p = c.args.place.now in
    let names = names_at p in
    let d = design_at p in
    let same : groups_invoked d (comp_at p) (statements_of (statements_from (map (statement_tree names) c.deref-in-Par.result.now))) ≡ groups_invoked d (comp_at p) (statements_in (statement_tree names c.args.statement.now)) =
    ap (λ (ss : List Control). groups_invoked d (comp_at p) (statements_of (statements_from (map (statement_tree names) ss)))) c.deref-in-Par.ensures.value
    ∙ ap (λ (s : Statement). groups_invoked d (comp_at p) (statements_in s)) (sym (par_tree names c.in-Par.list) ∙ ap (statement_tree names) (sym c.in-Par.is)) in
    subst (λ (gs : List GroupDef). OnOk c.add_statements-in-Par.result (AddsGroups d (comp_at p) gs c.args.graph.now c.add_statements-in-Par.new.graph)) same c.add_statements-in-Par.ensures

pub add_statement-returns-in_ok-add_statement-in-If : goal.add_statement-returns-in_ok-add_statement-in-If
add_statement-returns-in_ok-add_statement-in-If t c =
    let p = c.args.place.now in
    let names = names_at p in
    let d = design_at p in
    let f = statement_tree names in
    let a = c.args.graph.now in
    let b = c.add_statement.new.graph in
    let e = c.add_statement-in-If.new.graph in
    let result = c.add_statement-in-If.result in
    let first = subst (λ (s : Control). AddsGroups d (comp_at p) (groups_invoked d (comp_at p) (statements_in (f s))) a b) c.deref-in-If.ensures c.in_ok-add_statement-in-If.ensures in
    let second = subst (λ (s : Control). OnOk result (AddsGroups d (comp_at p) (groups_invoked d (comp_at p) (statements_in (f s))) b e)) c.deref-in-If-2.ensures c.add_statement-in-If.ensures in
    let same =
    groups_of_if d (comp_at p) (port_tree names c.in-If.port) (option_map (text_of names) c.in-If.by) (f c.in-If.yes.value) (f c.in-If.no.value)
    ∙ ap (λ (s : Control). groups_invoked d (comp_at p) (statements_in (f s))) (sym c.in-If.is) in
    subst (λ (gs : List GroupDef). OnOk result (AddsGroups d (comp_at p) gs a e)) same (on_ok_weaker result (λ last. groups_both d (comp_at p) _ _ a b e first last) second)

pub add_statement-returns-in-While : goal.add_statement-returns-in-While
add_statement-returns-in-While t c =
    let p = c.args.place.now in
    let names = names_at p in
    let d = design_at p in
    let f = statement_tree names in
    let a = c.args.graph.now in
    let e = c.add_statement-in-While.new.graph in
    let result = c.add_statement-in-While.result in
    let own = subst (λ (s : Control). OnOk result (AddsGroups d (comp_at p) (groups_invoked d (comp_at p) (statements_in (f s))) a e)) c.deref-in-While.ensures c.add_statement-in-While.ensures in
    let same =
    groups_of_while d (comp_at p) (port_tree names c.in-While.port) (option_map (text_of names) c.in-While.by) (f c.in-While.body.value)
    ∙ ap (λ (s : Control). groups_invoked d (comp_at p) (statements_in (f s))) (sym c.in-While.is) in
    subst (λ (gs : List GroupDef). OnOk result (AddsGroups d (comp_at p) gs a e)) same own

pub add_statements-loop-statement-init : goal.add_statements-loop-statement-init
add_statements-loop-statement-init t c = groups_none (design_at c.args.place.now) (comp_at c.args.place.now) c.args.graph.now

pub add_statements-add_statement-requires : goal.add_statements-add_statement-requires
add_statements-add_statement-requires t c =
    let S : Control → Type 0 = StatementHasNumbers (names_at c.args.place.now) in (
      search (rules, the_lemmas),
      (c.loop-statement.invariant.adds.names ∙ c.requires.names, subst S (sym c.statement-item.is) (c.requires.list c.loop-statement.statement-index c.statement-item.result c.loop-statement-test.true)),
    )

pub add_statements-loop-statement-preserved : goal.add_statements-loop-statement-preserved
add_statements-loop-statement-preserved t c =
    let p = c.args.place.now in
    let names = names_at p in
    let d = design_at p in
    let f = statement_tree names in
    let list = c.args.list.now in
    let k = c.loop-statement.statement-index in
    let s = c.statement-item.result in
    let longer : map f (take (k + 1) list) ≡ map f (take k list) ++ f s ∷ [] =
    ap (map f) (take_more list k s c.loop-statement-test.true ∙ ap (λ (x : Control). take k list ++ x ∷ []) (sym c.statement-item.is)) ∙ map-append f (take k list) (s ∷ []) in
    let same = groups_of_next d (comp_at p) (map f (take k list)) (f s) ∙ ap (λ (ss : List Statement). groups_invoked d (comp_at p) (statements_of (statements_from ss))) (sym longer) in
    subst (λ (gs : List GroupDef). AddsGroups d (comp_at p) gs c.args.graph.now c.add_statement.new.graph) same
    (groups_both d (comp_at p) _ _ c.args.graph.now c.loop-statement.graph c.add_statement.new.graph c.loop-statement.invariant c.in_ok-add_statement.ensures)

pub add_statements-returns : goal.add_statements-returns
add_statements-returns t c =
    let p = c.args.place.now in
    let d = design_at p in
    subst (λ (ss : List Control). AddsGroups d (comp_at p) (groups_invoked d (comp_at p) (statements_of (statements_from (map (statement_tree (names_at p)) ss)))) c.args.graph.now c.loop-statement.graph)
    (take_all c.loop-statement.statement-index c.args.list.now c.loop-statement-test.false) c.loop-statement.invariant
