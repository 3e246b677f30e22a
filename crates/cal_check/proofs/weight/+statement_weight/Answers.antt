use Rattle.std.proofs.Common.{◌<◌, ◌≤◌, List, length, map, sum_by, refl, sym, ap, ◌∙◌, arith}
use Rattle.std.proofs.lemmas.List.{length-map}
use Rattle.net_core.specs.Weight.{saturated}
use Rattle.cal_ast.specs.Items.{statements_in, statements_of}
use Rattle.cal_ast.specs.Tree.{Statement, in_tree, out_tree, statement_tree}
use Rattle.cal_ast.specs.declared.tree.Control.{Control}
use Rattle.cal_place.specs.Statements.{statements_from}
use Rattle.cal_check.specs.Weight.{statement_weight}
use Rattle.cal_place.proofs.BranchLemmas.{branch_none, branch_some, branch_statements, trees}
use Rattle.cal_place.proofs.ListLemmas.{at_mapped}
use Rattle.cal_check.proofs.WeightLemmas.{sum_all, sum_step, weighed, weight_enable, weight_if, weight_invoke, weight_of_list, weight_par, weight_seq, weight_while}
use Rattle.cal_check.proofs.weight.+statement_weight.Goals as goal

-- ---- statement_weight

pub statement_weight-returns-in-Enable : goal.statement_weight-returns-in-Enable
statement_weight-returns-in-Enable t c = λ names. sym (ap saturated (weight_enable names c.args.statement.now _ (ap (statement_tree names) c.in-Enable.is)))

pub statement_weight-returns-in-Seq : goal.statement_weight-returns-in-Seq
statement_weight-returns-in-Seq t c = λ names.
    let list = c.statements_weight.ensures names ∙ ap (λ (ss : List Control). saturated (weighed (statements_of (statements_from (trees names ss))))) c.deref.ensures.value in
    let whole = weight_seq names c.args.statement.now c.in-Seq.list c.in-Seq.is in
    omega arith

pub statement_weight-returns-in-Par : goal.statement_weight-returns-in-Par
statement_weight-returns-in-Par t c = λ names.
    let list = c.statements_weight-in-Par.ensures names ∙ ap (λ (ss : List Control). saturated (weighed (statements_of (statements_from (trees names ss))))) c.deref-in-Par.ensures.value in
    let whole = weight_par names c.args.statement.now c.in-Par.list c.in-Par.is in
    omega arith

pub statement_weight-returns-in-If : goal.statement_weight-returns-in-If
statement_weight-returns-in-If t c = λ names.
    let first = c.branch_weight.ensures names ∙ ap (λ (b : Control). saturated (weighed (branch_statements names b))) c.deref-in-If.ensures in
    let second = c.branch_weight-in-If.ensures names ∙ ap (λ (b : Control). saturated (weighed (branch_statements names b))) c.deref-in-If-2.ensures in
    let whole = weight_if names c.args.statement.now _ _ c.in-If.yes.value c.in-If.no.value (ap (statement_tree names) c.in-If.is) in
    omega arith

pub statement_weight-returns-in-While : goal.statement_weight-returns-in-While
statement_weight-returns-in-While t c = λ names.
    let first = c.branch_weight-in-While.ensures names ∙ ap (λ (b : Control). saturated (weighed (branch_statements names b))) c.deref-in-While.ensures in
    let whole = weight_while names c.args.statement.now _ _ c.in-While.body.value (ap (statement_tree names) c.in-While.is) in
    omega arith

pub statement_weight-returns-in-Invoke : goal.statement_weight-returns-in-Invoke
statement_weight-returns-in-Invoke t c = λ names.
    let ins = c.in-Invoke.ins in
    let outs = c.in-Invoke.outs in
    let whole = weight_invoke names c.args.statement.now _ (map (in_tree names) ins.items) (map (out_tree names) outs.items) (ap (statement_tree names) c.in-Invoke.is) in
    omega (arith, ins.ok.0, outs.ok.0, length-map ins.items (in_tree names), length-map outs.items (out_tree names))

-- ---- branch_weight

pub branch_weight-returns-then-is_empty_seq : goal.branch_weight-returns-then-is_empty_seq
branch_weight-returns-then-is_empty_seq t c = λ names.
    let node = statement_tree names c.args.statement.now in
    sym (ap (λ (ss : List Statement). saturated (weighed ss)) (branch_none node (statements_in node) c.is_empty_seq.result (c.is_empty_seq.ensures names (statements_in node)) c.if-is_empty_seq.true))

pub branch_weight-returns : goal.branch_weight-returns
branch_weight-returns t c = λ names.
    let node = statement_tree names c.args.statement.now in
    c.statement_weight.ensures names
    ∙ sym (ap (λ (ss : List Statement). saturated (weighed ss)) (branch_some node (statements_in node) c.is_empty_seq.result (c.is_empty_seq.ensures names (statements_in node)) c.if-is_empty_seq.false))

-- ---- statements_weight

pub statements_weight-loop-statement-init : goal.statements_weight-loop-statement-init
statements_weight-loop-statement-init t c = λ names. refl

pub statements_weight-loop-statement-preserved : goal.statements_weight-loop-statement-preserved
statements_weight-loop-statement-preserved t c = λ names.
    let tree = statement_tree names in
    let list = c.args.list.now in
    let k = c.loop-statement.statement-index in
    let within : k < length list = omega arith in
    let at = at_mapped tree list list k c.statement-item.result refl within c.statement-item.is in
    sum_step (λ (s : Statement). sum_by statement_weight (statements_in s)) (map tree list) k (tree c.statement-item.result) c.loop-statement.weight c.statement_weight.result c.saturating_add-weight.result at (c.loop-statement.invariant names) (c.statement_weight.ensures names) c.saturating_add-weight.ensures

pub statements_weight-returns : goal.statements_weight-returns
statements_weight-returns t c = λ names.
    let tree = statement_tree names in
    let list = c.args.list.now in
    let weight = λ (s : Statement). sum_by statement_weight (statements_in s) in
    let end : length (map tree list) ≤ c.loop-statement.statement-index = omega (arith, length-map list tree) in
    c.loop-statement.invariant names ∙ ap saturated (sum_all weight (map tree list) c.loop-statement.statement-index end ∙ sym (weight_of_list (map tree list)))
