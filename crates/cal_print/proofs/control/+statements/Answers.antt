use Rattle.std.proofs.Common.{◌++◌, List, codes, All, rules, refl, ap, sym, subst, ◌∙◌}
use Rattle.hw_names.specs.Name.{Text}
use Rattle.cal_ast.specs.Numbers.{StatementHasNumbers}
use Rattle.cal_ast.specs.Tree.{statement_tree}
use Rattle.cal_ast.specs.declared.tree.Control.{Control, the_lemmas}
use Rattle.cal_print.specs.Layout.{line_text, deeper, statement_text}
use Rattle.cal_print.proofs.PrintLemmas.{OnOk-is}
use Rattle.cal_print.proofs.Sections.{block_put}
use Rattle.cal_print.proofs.Rows.{inner_text, seq_numbers, par_numbers, seq_text, par_text, statements_step}
use Rattle.cal_print.proofs.control.+statements.Goals as goal

pub put_statement-put_statements-requires : goal.put_statement-put_statements-requires
put_statement-put_statements-requires t c =
    let names = c.args.names.now in (
      search (rules, the_lemmas),
      subst (λ (ss : List Control). All (StatementHasNumbers names) ss) (sym c.deref.ensures.value) (seq_numbers names c.in-Seq.statements (subst (λ (s : Control). StatementHasNumbers names s) c.in-Seq.is c.requires)),
    )

pub put_statement-put_statements-requires-in-Par : goal.put_statement-put_statements-requires-in-Par
put_statement-put_statements-requires-in-Par t c =
    let names = c.args.names.now in (
      search (rules, the_lemmas),
      subst (λ (ss : List Control). All (StatementHasNumbers names) ss) (sym c.deref-in-Par.ensures.value) (par_numbers names c.in-Par.statements (subst (λ (s : Control). StatementHasNumbers names s) c.in-Par.is c.requires)),
    )

pub put_statement-returns-in_ok-put_statements-in-Seq : goal.put_statement-returns-in_ok-put_statements-in-Seq
put_statement-returns-in_ok-put_statements-in-Seq t c =
    let names = c.args.names.now in
    let margin : Text = c.args.margin.now in
    let v = c.in-Seq.statements in
    let start : Text = c.args.out.now.items in
    let end : Text = c.put_statements.new.out.items in
    let inner = c.in_ok-put_statements-in-Seq.ensures ∙ ap (λ (ss : List Control). c.put-in-Seq.new.out.items ++ inner_text names (deeper margin) ss) c.deref.ensures.value in
    OnOk-is c.put_line.result c.put_line.new.out.items _ _ c.put_line.ensures
    (block_put start c.put.new.out.items c.put-in-Seq.new.out.items end (end ++ line_text margin (codes "}")) margin (codes "seq") (inner_text names (deeper margin) v.items) c.in_ok-put.ensures c.in_ok-put-in-Seq.ensures inner refl
    ∙ ap (λ (x : Text). start ++ x) (sym (seq_text names margin v) ∙ ap (λ (s : Control). statement_text margin (statement_tree names s)) (sym c.in-Seq.is)))

pub put_statement-returns-in_ok-put_statements-in-Par : goal.put_statement-returns-in_ok-put_statements-in-Par
put_statement-returns-in_ok-put_statements-in-Par t c =
    let names = c.args.names.now in
    let margin : Text = c.args.margin.now in
    let v = c.in-Par.statements in
    let start : Text = c.args.out.now.items in
    let end : Text = c.put_statements-in-Par.new.out.items in
    let inner = c.in_ok-put_statements-in-Par.ensures ∙ ap (λ (ss : List Control). c.put-in-Par.new.out.items ++ inner_text names (deeper margin) ss) c.deref-in-Par.ensures.value in
    OnOk-is c.put_line-in-Par.result c.put_line-in-Par.new.out.items _ _ c.put_line-in-Par.ensures
    (block_put start c.put.new.out.items c.put-in-Par.new.out.items end (end ++ line_text margin (codes "}")) margin (codes "par") (inner_text names (deeper margin) v.items) c.in_ok-put.ensures c.in_ok-put-in-Par.ensures inner refl
    ∙ ap (λ (x : Text). start ++ x) (sym (par_text names margin v) ∙ ap (λ (s : Control). statement_text margin (statement_tree names s)) (sym c.in-Par.is)))

pub put_statements-loop-statement-preserved : goal.put_statements-loop-statement-preserved
put_statements-loop-statement-preserved t c =
    statements_step c.args.names.now c.args.margin.now c.deref.result.now c.args.statements.now c.loop-statement.statement-index c.statement-item.result c.args.out.now.items c.loop-statement.out.items c.put_statement.new.out.items
    c.loop-statement-test.true c.statement-item.is (c.deref.ensures.value ∙ c.in_ok-inner.ensures) c.loop-statement.invariant c.in_ok-put_statement.ensures
