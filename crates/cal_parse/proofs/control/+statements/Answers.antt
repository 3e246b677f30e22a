use Rattle.std.proofs.Common.{◌≡◌, ◌-◌, suc, List, [], ◌∷◌, ◌++◌, Ok, length, map, sym, ap, ◌∙◌, refl, arith}
use Rattle.std.proofs.lemmas.List.{map_push}
use Rattle.std.proofs.lemmas.Result.{err_from_is_err_and}
use Rattle.hw_names.specs.Name.{Text, text_of}
use Rattle.hw_grammar.specs.declared.sort.Sort.TheVariants.{LeftBrace, RightBrace, Seq, Par, If, Else, While}
use Rattle.hw_grammar.specs.declared.terminal.Terminal.{Terminal}
use Rattle.hw_grammar.specs.Reading.{Gives, Fails, one, empty, then, mapped, after, between, with_front, many}
use Rattle.hw_grammar.proofs.Loop.{goes_on, stops, fails, ends, runs_out}
use Rattle.cal_ast.specs.Tree.{Statement, statement_tree}
use Rattle.cal_parse.specs.Grammar.{seq_from, par_from, branch_from, if_from, while_from}
use Rattle.cal_parse.specs.inside.Reading.{statement_set, attributes_at, block_by, branch_by, maybe_else_by, condition_at, branches_by, if_by, while_by, plain_statement_by, statement_by, statement_to}
use Rattle.hw_grammar.proofs.Steps.{then_ok, then_fails, then_missing, mapped_ok, mapped_fails, either_first, either_second, after_ok, after_fails, after_missing, between_ok, between_fails, between_open}
use Rattle.cal_parse.proofs.ControlLaws.{seq_tree, par_tree, plain_enable, plain_seq, plain_par, plain_if, plain_while, plain_invoke, else_none, statement_ok, statement_missing, statement_fails}
use Rattle.cal_parse.proofs.control.+statements.Goals as goal

-- ---- read_block

pub read_block-returns : goal.read_block-returns
unfolding block_by
read_block-returns t c = λ names. between_ok LeftBrace RightBrace (many statement_set (statement_to names c.args.depth)) c.args.ts.now _ _ c.in_ok-rest.ensures _ _ _ _ (c.in_ok-statements.ensures names) c.in_ok-rest-2.ensures

pub read_block-returns-in_err-rest : goal.read_block-returns-in_err-rest
unfolding block_by
read_block-returns-in_err-rest t c = λ names.
    let p = err_from_is_err_and c.from_residual.result c.from_residual.ensures.1 in
    rw (p.1, p.2) (after_missing LeftBrace _ c.args.ts.now c.in_err-rest.field-0.0 c.in_err-rest.ensures)

pub read_block-returns-in_err-statements : goal.read_block-returns-in_err-statements
unfolding block_by
read_block-returns-in_err-statements t c = λ names.
    let p = err_from_is_err_and c.from_residual-in_err-statements.result c.from_residual-in_err-statements.ensures.1 in
    rw (p.1, p.2) (between_fails LeftBrace RightBrace (many statement_set (statement_to names c.args.depth)) c.args.ts.now _ _ c.in_ok-rest.ensures c.in_err-statements.field-0.0 (c.in_err-statements.ensures names))

pub read_block-returns-in_err-rest-2 : goal.read_block-returns-in_err-rest-2
unfolding block_by
read_block-returns-in_err-rest-2 t c = λ names.
    let p = err_from_is_err_and c.from_residual-in_err-rest-2.result c.from_residual-in_err-rest-2.ensures.1 in
    rw (p.1, p.2) (between_open LeftBrace RightBrace (many statement_set (statement_to names c.args.depth)) c.args.ts.now _ _ c.in_ok-rest.ensures _ _ c.in_err-rest-2.field-0.0 (c.in_ok-statements.ensures names) c.in_err-rest-2.ensures)

-- ---- read_branch

pub read_branch-returns : goal.read_branch-returns
unfolding branch_by
read_branch-returns t c = λ names. mapped_ok branch_from (block_by (statement_to names c.args.depth)) c.args.ts.now _ _ (c.in_ok-statements.ensures names) ∙ ap (λ (s : Statement). Ok (s, c.in_ok-statements.rest.now)) (sym (c.branch_of.ensures names))

pub read_branch-returns-in_err-statements : goal.read_branch-returns-in_err-statements
unfolding branch_by
read_branch-returns-in_err-statements t c = λ names.
    let p = err_from_is_err_and c.from_residual.result c.from_residual.ensures.1 in
    rw (p.1, p.2) (mapped_fails branch_from (block_by (statement_to names c.args.depth)) c.args.ts.now c.in_err-statements.field-0.0 (c.in_err-statements.ensures names))

-- ---- else_or_none

pub else_or_none-returns-in_ok-branch : goal.else_or_none-returns-in_ok-branch
unfolding maybe_else_by
else_or_none-returns-in_ok-branch t c = λ names. either_first (Else ∷ []) (after Else (branch_by (statement_to names c.args.depth))) (empty (branch_from [])) c.args.ts.now (sym c.if-starts.ensures) ∙ after_ok Else (branch_by (statement_to names c.args.depth)) c.args.ts.now _ _ c.in_ok-rest.ensures _ _ (c.in_ok-branch.ensures names)

pub else_or_none-returns-in_err-rest : goal.else_or_none-returns-in_err-rest
unfolding maybe_else_by
else_or_none-returns-in_err-rest t c = λ names.
    let p = err_from_is_err_and c.from_residual.result c.from_residual.ensures.1 in
    rw (p.1, p.2) (rw (sym c.if-starts.ensures) (after_missing Else (branch_by (statement_to names c.args.depth)) c.args.ts.now c.in_err-rest.field-0.0 c.in_err-rest.ensures))

pub else_or_none-returns-in_err-branch : goal.else_or_none-returns-in_err-branch
unfolding maybe_else_by
else_or_none-returns-in_err-branch t c = λ names.
    let p = err_from_is_err_and c.from_residual-in_err-branch.result c.from_residual-in_err-branch.ensures.1 in
    rw (p.1, p.2) (rw (sym c.if-starts.ensures) (after_fails Else (branch_by (statement_to names c.args.depth)) c.args.ts.now _ _ c.in_ok-rest.ensures c.in_err-branch.field-0.0 (c.in_err-branch.ensures names)))

pub else_or_none-returns-else-starts : goal.else_or_none-returns-else-starts
else_or_none-returns-else-starts t c = λ names. else_none names (statement_to names c.args.depth) c.args.ts.now _ (sym c.if-starts.ensures) c.new.ensures.items

-- ---- read_branches

pub read_branches-returns : goal.read_branches-returns
unfolding branches_by
read_branches-returns t c = λ names. then_ok (branch_by (statement_to names c.args.depth)) (maybe_else_by (statement_to names c.args.depth)) c.args.ts.now _ _ (c.in_ok-yes.ensures names) _ _ (c.in_ok-no.ensures names)

pub read_branches-returns-in_err-yes : goal.read_branches-returns-in_err-yes
unfolding branches_by
read_branches-returns-in_err-yes t c = λ names.
    let p = err_from_is_err_and c.from_residual.result c.from_residual.ensures.1 in
    rw (p.1, p.2) (then_missing (branch_by (statement_to names c.args.depth)) (maybe_else_by (statement_to names c.args.depth)) c.args.ts.now c.in_err-yes.field-0.0 (c.in_err-yes.ensures names))

pub read_branches-returns-in_err-no : goal.read_branches-returns-in_err-no
unfolding branches_by
read_branches-returns-in_err-no t c = λ names.
    let p = err_from_is_err_and c.from_residual-in_err-no.result c.from_residual-in_err-no.ensures.1 in
    rw (p.1, p.2) (then_fails (branch_by (statement_to names c.args.depth)) (maybe_else_by (statement_to names c.args.depth)) c.args.ts.now _ _ (c.in_ok-yes.ensures names) c.in_err-no.field-0.0 (c.in_err-no.ensures names))

-- ---- read_if

pub read_if-returns-in_err-rest : goal.read_if-returns-in_err-rest
unfolding if_by
read_if-returns-in_err-rest t c = λ names.
    let p = err_from_is_err_and c.from_residual.result c.from_residual.ensures.1 in
    rw (p.1, p.2) (mapped_fails if_from (after If (then (condition_at names) (branches_by (statement_to names c.args.depth)))) c.args.ts.now c.in_err-rest.field-0.0 (after_missing If (then (condition_at names) (branches_by (statement_to names c.args.depth))) c.args.ts.now c.in_err-rest.field-0.0 c.in_err-rest.ensures))

pub read_if-returns-in_err-port : goal.read_if-returns-in_err-port
unfolding if_by
read_if-returns-in_err-port t c = λ names.
    let p = err_from_is_err_and c.from_residual-in_err-port.result c.from_residual-in_err-port.ensures.1 in
    rw (p.1, p.2) (mapped_fails if_from (after If (then (condition_at names) (branches_by (statement_to names c.args.depth)))) c.args.ts.now c.in_err-port.field-0.0 (after_fails If (then (condition_at names) (branches_by (statement_to names c.args.depth))) c.args.ts.now _ _ c.in_ok-rest.ensures c.in_err-port.field-0.0 (then_missing (condition_at names) (branches_by (statement_to names c.args.depth)) c.in_ok-rest.rest.now c.in_err-port.field-0.0 (c.in_err-port.ensures names))))

pub read_if-returns-in_err-yes : goal.read_if-returns-in_err-yes
unfolding if_by
read_if-returns-in_err-yes t c = λ names.
    let p = err_from_is_err_and c.from_residual-in_err-yes.result c.from_residual-in_err-yes.ensures.1 in
    rw (p.1, p.2) (mapped_fails if_from (after If (then (condition_at names) (branches_by (statement_to names c.args.depth)))) c.args.ts.now c.in_err-yes.field-0.0 (after_fails If (then (condition_at names) (branches_by (statement_to names c.args.depth))) c.args.ts.now _ _ c.in_ok-rest.ensures c.in_err-yes.field-0.0 (then_fails (condition_at names) (branches_by (statement_to names c.args.depth)) c.in_ok-rest.rest.now _ _ (c.in_ok-port.ensures names) c.in_err-yes.field-0.0 (c.in_err-yes.ensures names))))

pub read_if-returns : goal.read_if-returns
unfolding if_by
read_if-returns t c = λ names.
    rw (c.in_ok-new.ensures.ok, c.in_ok-new-2.ensures.ok)
    (mapped_ok if_from (after If (then (condition_at names) (branches_by (statement_to names c.args.depth)))) c.args.ts.now _ _ (after_ok If (then (condition_at names) (branches_by (statement_to names c.args.depth))) c.args.ts.now _ _ c.in_ok-rest.ensures _ _ (then_ok (condition_at names) (branches_by (statement_to names c.args.depth)) c.in_ok-rest.rest.now _ _ (c.in_ok-port.ensures names) _ _ (c.in_ok-yes.ensures names))))

-- ---- read_while

pub read_while-returns-in_err-rest : goal.read_while-returns-in_err-rest
unfolding while_by
read_while-returns-in_err-rest t c = λ names.
    let p = err_from_is_err_and c.from_residual.result c.from_residual.ensures.1 in
    rw (p.1, p.2) (mapped_fails while_from (after While (then (condition_at names) (branch_by (statement_to names c.args.depth)))) c.args.ts.now c.in_err-rest.field-0.0 (after_missing While (then (condition_at names) (branch_by (statement_to names c.args.depth))) c.args.ts.now c.in_err-rest.field-0.0 c.in_err-rest.ensures))

pub read_while-returns-in_err-port : goal.read_while-returns-in_err-port
unfolding while_by
read_while-returns-in_err-port t c = λ names.
    let p = err_from_is_err_and c.from_residual-in_err-port.result c.from_residual-in_err-port.ensures.1 in
    rw (p.1, p.2) (mapped_fails while_from (after While (then (condition_at names) (branch_by (statement_to names c.args.depth)))) c.args.ts.now c.in_err-port.field-0.0 (after_fails While (then (condition_at names) (branch_by (statement_to names c.args.depth))) c.args.ts.now _ _ c.in_ok-rest.ensures c.in_err-port.field-0.0 (then_missing (condition_at names) (branch_by (statement_to names c.args.depth)) c.in_ok-rest.rest.now c.in_err-port.field-0.0 (c.in_err-port.ensures names))))

pub read_while-returns-in_err-body : goal.read_while-returns-in_err-body
unfolding while_by
read_while-returns-in_err-body t c = λ names.
    let p = err_from_is_err_and c.from_residual-in_err-body.result c.from_residual-in_err-body.ensures.1 in
    rw (p.1, p.2) (mapped_fails while_from (after While (then (condition_at names) (branch_by (statement_to names c.args.depth)))) c.args.ts.now c.in_err-body.field-0.0 (after_fails While (then (condition_at names) (branch_by (statement_to names c.args.depth))) c.args.ts.now _ _ c.in_ok-rest.ensures c.in_err-body.field-0.0 (then_fails (condition_at names) (branch_by (statement_to names c.args.depth)) c.in_ok-rest.rest.now _ _ (c.in_ok-port.ensures names) c.in_err-body.field-0.0 (c.in_err-body.ensures names))))

pub read_while-returns : goal.read_while-returns
unfolding while_by
read_while-returns t c = λ names.
    rw (c.in_ok-new.ensures.ok)
    (mapped_ok while_from (after While (then (condition_at names) (branch_by (statement_to names c.args.depth)))) c.args.ts.now _ _ (after_ok While (then (condition_at names) (branch_by (statement_to names c.args.depth))) c.args.ts.now _ _ c.in_ok-rest.ensures _ _ (then_ok (condition_at names) (branch_by (statement_to names c.args.depth)) c.in_ok-rest.rest.now _ _ (c.in_ok-port.ensures names) _ _ (c.in_ok-body.ensures names))))

-- ---- read_statements

pub read_statements-returns-then-not-starts_statement : goal.read_statements-returns-then-not-starts_statement
read_statements-returns-then-not-starts_statement t c = λ names. stops statement_set (statement_to names c.args.depth) (map (statement_tree names) c.loop.all.items) (length c.args.ts.now) c.loop.counter c.loop.rest.now _ (c.loop.invariant names) c.loop-test.true (sym c.if-not-starts_statement.ensures)

pub read_statements-returns-then-starts_statement : goal.read_statements-returns-then-starts_statement
read_statements-returns-then-starts_statement t c = λ names. runs_out statement_set (statement_to names c.args.depth) (map (statement_tree names) c.loop.all.items) (length c.args.ts.now) c.loop.counter c.loop.rest.now _ (c.loop.invariant names) c.loop-test.false (sym c.if-starts_statement.ensures)

pub read_statements-returns : goal.read_statements-returns
read_statements-returns t c = λ names. ends statement_set (statement_to names c.args.depth) (map (statement_tree names) c.loop.all.items) (length c.args.ts.now) c.loop.counter c.loop.rest.now _ (c.loop.invariant names) c.loop-test.false (sym c.if-starts_statement.ensures)

pub read_statements-loop-preserved : goal.read_statements-loop-preserved
read_statements-loop-preserved t c = λ names.
    let e : map (statement_tree names) c.push.new.self.items ≡ map (statement_tree names) c.loop.all.items ++ statement_tree names c.in_ok-next.next ∷ [] = rw c.in_ok-push.ensures.items (map_push _ c.loop.all.items c.in_ok-next.next) in
    rw e (goes_on statement_set (statement_to names c.args.depth) (map (statement_tree names) c.loop.all.items) (length c.args.ts.now) c.loop.counter c.loop.rest.now _ (c.loop.invariant names) (statement_tree names c.in_ok-next.next) c.in_ok-next.after.now c.loop-test.true (sym c.if-not-starts_statement.ensures) (c.in_ok-next.ensures names))

pub read_statements-returns-in_err-next : goal.read_statements-returns-in_err-next
read_statements-returns-in_err-next t c = λ names.
    let p = err_from_is_err_and c.from_residual.result c.from_residual.ensures.1 in
    rw (p.1, p.2) (fails statement_set (statement_to names c.args.depth) (map (statement_tree names) c.loop.all.items) (length c.args.ts.now) c.loop.counter c.loop.rest.now _ (c.loop.invariant names) c.in_err-next.field-0.0 c.loop-test.true (sym c.if-not-starts_statement.ensures) (c.in_err-next.ensures names))

-- ---- read_plain_statement

pub read_plain_statement-returns-then-starts : goal.read_plain_statement-returns-then-starts
read_plain_statement-returns-then-starts t c = λ names. rw (plain_enable names (statement_to names c.args.depth) c.args.ts.now (sym c.if-starts.ensures)) (c.read_enable.ensures names)

pub read_plain_statement-returns-then-starts-4 : goal.read_plain_statement-returns-then-starts-4
read_plain_statement-returns-then-starts-4 t c = λ names. rw (plain_if names (statement_to names c.args.depth) c.args.ts.now (sym c.if-starts.ensures) (sym c.if-starts-2.ensures) (sym c.if-starts-3.ensures) (sym c.if-starts-4.ensures)) (c.read_if.ensures names)

pub read_plain_statement-returns-then-starts-5 : goal.read_plain_statement-returns-then-starts-5
read_plain_statement-returns-then-starts-5 t c = λ names. rw (plain_while names (statement_to names c.args.depth) c.args.ts.now (sym c.if-starts.ensures) (sym c.if-starts-2.ensures) (sym c.if-starts-3.ensures) (sym c.if-starts-4.ensures) (sym c.if-starts-5.ensures)) (c.read_while.ensures names)

pub read_plain_statement-returns-else-starts-5 : goal.read_plain_statement-returns-else-starts-5
read_plain_statement-returns-else-starts-5 t c = λ names. rw (plain_invoke names (statement_to names c.args.depth) c.args.ts.now (sym c.if-starts.ensures) (sym c.if-starts-2.ensures) (sym c.if-starts-3.ensures) (sym c.if-starts-4.ensures) (sym c.if-starts-5.ensures)) (c.read_invoke.ensures names)

pub read_plain_statement-returns-in_ok-statements : goal.read_plain_statement-returns-in_ok-statements
read_plain_statement-returns-in_ok-statements t c = λ names. (plain_seq names (statement_to names c.args.depth) c.args.ts.now (sym c.if-starts.ensures) (sym c.if-starts-2.ensures)) ∙ mapped_ok seq_from (after Seq (block_by (statement_to names c.args.depth))) c.args.ts.now _ _ (after_ok Seq (block_by (statement_to names c.args.depth)) c.args.ts.now _ _ c.in_ok-rest.ensures _ _ (c.in_ok-statements.ensures names)) ∙ ap (λ (s : Statement). Ok (s, c.in_ok-statements.rest.now)) (sym (seq_tree names c.in_ok-statements.statements))

pub read_plain_statement-returns-in_err-rest : goal.read_plain_statement-returns-in_err-rest
read_plain_statement-returns-in_err-rest t c = λ names.
    let p = err_from_is_err_and c.from_residual.result c.from_residual.ensures.1 in
    rw (p.1, p.2) (rw (plain_seq names (statement_to names c.args.depth) c.args.ts.now (sym c.if-starts.ensures) (sym c.if-starts-2.ensures)) (mapped_fails seq_from (after Seq (block_by (statement_to names c.args.depth))) c.args.ts.now c.in_err-rest.field-0.0 (after_missing Seq (block_by (statement_to names c.args.depth)) c.args.ts.now c.in_err-rest.field-0.0 c.in_err-rest.ensures)))

pub read_plain_statement-returns-in_err-statements : goal.read_plain_statement-returns-in_err-statements
read_plain_statement-returns-in_err-statements t c = λ names.
    let p = err_from_is_err_and c.from_residual-in_err-statements.result c.from_residual-in_err-statements.ensures.1 in
    rw (p.1, p.2) (rw (plain_seq names (statement_to names c.args.depth) c.args.ts.now (sym c.if-starts.ensures) (sym c.if-starts-2.ensures)) (mapped_fails seq_from (after Seq (block_by (statement_to names c.args.depth))) c.args.ts.now c.in_err-statements.field-0.0 (after_fails Seq (block_by (statement_to names c.args.depth)) c.args.ts.now _ _ c.in_ok-rest.ensures c.in_err-statements.field-0.0 (c.in_err-statements.ensures names))))

pub read_plain_statement-returns-in_ok-statements-2 : goal.read_plain_statement-returns-in_ok-statements-2
read_plain_statement-returns-in_ok-statements-2 t c = λ names. (plain_par names (statement_to names c.args.depth) c.args.ts.now (sym c.if-starts.ensures) (sym c.if-starts-2.ensures) (sym c.if-starts-3.ensures)) ∙ mapped_ok par_from (after Par (block_by (statement_to names c.args.depth))) c.args.ts.now _ _ (after_ok Par (block_by (statement_to names c.args.depth)) c.args.ts.now _ _ c.in_ok-rest-2.ensures _ _ (c.in_ok-statements-2.ensures names)) ∙ ap (λ (s : Statement). Ok (s, c.in_ok-statements-2.rest.now)) (sym (par_tree names c.in_ok-statements-2.statements))

pub read_plain_statement-returns-in_err-rest-2 : goal.read_plain_statement-returns-in_err-rest-2
read_plain_statement-returns-in_err-rest-2 t c = λ names.
    let p = err_from_is_err_and c.from_residual-in_err-rest-2.result c.from_residual-in_err-rest-2.ensures.1 in
    rw (p.1, p.2) (rw (plain_par names (statement_to names c.args.depth) c.args.ts.now (sym c.if-starts.ensures) (sym c.if-starts-2.ensures) (sym c.if-starts-3.ensures)) (mapped_fails par_from (after Par (block_by (statement_to names c.args.depth))) c.args.ts.now c.in_err-rest-2.field-0.0 (after_missing Par (block_by (statement_to names c.args.depth)) c.args.ts.now c.in_err-rest-2.field-0.0 c.in_err-rest-2.ensures)))

pub read_plain_statement-returns-in_err-statements-2 : goal.read_plain_statement-returns-in_err-statements-2
read_plain_statement-returns-in_err-statements-2 t c = λ names.
    let p = err_from_is_err_and c.from_residual-in_err-statements-2.result c.from_residual-in_err-statements-2.ensures.1 in
    rw (p.1, p.2) (rw (plain_par names (statement_to names c.args.depth) c.args.ts.now (sym c.if-starts.ensures) (sym c.if-starts-2.ensures) (sym c.if-starts-3.ensures)) (mapped_fails par_from (after Par (block_by (statement_to names c.args.depth))) c.args.ts.now c.in_err-statements-2.field-0.0 (after_fails Par (block_by (statement_to names c.args.depth)) c.args.ts.now _ _ c.in_ok-rest-2.ensures c.in_err-statements-2.field-0.0 (c.in_err-statements-2.ensures names))))

-- ---- read_statement

pub read_statement-returns : goal.read_statement-returns
read_statement-returns t c = λ names. statement_ok names c.args.depth (c.args.depth - 1) (omega arith) c.args.ts.now _ _ c.in_ok-rest.ensures _ _ (c.in_ok-statement.ensures names)

pub read_statement-returns-in_err-rest : goal.read_statement-returns-in_err-rest
read_statement-returns-in_err-rest t c = λ names.
    let p = err_from_is_err_and c.from_residual.result c.from_residual.ensures.1 in
    rw (p.1, p.2) (statement_missing names c.args.depth (c.args.depth - 1) (omega arith) c.args.ts.now c.in_err-rest.field-0.0 c.in_err-rest.ensures)

pub read_statement-returns-in_err-statement : goal.read_statement-returns-in_err-statement
read_statement-returns-in_err-statement t c = λ names.
    let p = err_from_is_err_and c.from_residual-in_err-statement.result c.from_residual-in_err-statement.ensures.1 in
    rw (p.1, p.2) (statement_fails names c.args.depth (c.args.depth - 1) (omega arith) c.args.ts.now _ _ c.in_ok-rest.ensures c.in_err-statement.field-0.0 (c.in_err-statement.ensures names))
