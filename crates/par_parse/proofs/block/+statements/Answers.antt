use Rattle.std.proofs.Common.{◌≡◌, ◌-◌, List, [], ◌∷◌, ◌++◌, Ok, length, map, sym, ap, ◌∙◌, arith}
use Rattle.std.proofs.lemmas.List.{map_push}
use Rattle.std.proofs.lemmas.Result.{err_from_is_err_and}
use Rattle.hw_grammar.specs.declared.sort.Sort.TheVariants.{LeftBrace, RightBrace, For, If, Else}
use Rattle.hw_grammar.specs.Reading.{empty, then, after, many}
use Rattle.hw_grammar.proofs.Loop.{goes_on, stops, fails, ends, runs_out}
use Rattle.hw_grammar.proofs.Steps.{then_ok, then_fails, then_missing, mapped_ok, mapped_fails, either_first, either_second, after_ok, after_fails, after_missing, between_ok, between_fails, between_open}
use Rattle.par_parse.specs.declared.tree.ParamStatement.{ParamStatement}
use Rattle.par_parse.specs.Tree.{StatementTree, statement_tree}
use Rattle.par_parse.specs.Grammar.{for_from, if_from}
use Rattle.par_parse.specs.inside.Reading.{statement_set, block_by, range_at, for_by, condition_at, maybe_else_by, branches_by, if_by, statement_to}
use Rattle.par_parse.proofs.BlockLaws.{for_tree, if_tree, statement_plain, statement_for, statement_if}
use Rattle.par_parse.proofs.block.+statements.Goals as goal

-- ---- read_statements

pub read_statements-returns-then-not-starts_statement : goal.read_statements-returns-then-not-starts_statement
read_statements-returns-then-not-starts_statement t c = λ names. stops statement_set (statement_to names c.args.depth) (map (statement_tree names) c.loop.all.items) (length c.args.ts.now) c.loop.counter c.loop.rest.now _ (c.loop.invariant names) c.loop-test.true (sym c.if-not-starts_statement.ensures)

pub read_statements-returns-then-starts_statement : goal.read_statements-returns-then-starts_statement
read_statements-returns-then-starts_statement t c = λ names. runs_out statement_set (statement_to names c.args.depth) (map (statement_tree names) c.loop.all.items) (length c.args.ts.now) c.loop.counter c.loop.rest.now _ (c.loop.invariant names) c.loop-test.false (sym c.if-starts_statement.ensures)

pub read_statements-returns : goal.read_statements-returns
read_statements-returns t c = λ names. ends statement_set (statement_to names c.args.depth) (map (statement_tree names) c.loop.all.items) (length c.args.ts.now) c.loop.counter c.loop.rest.now _ (c.loop.invariant names) c.loop-test.false (sym c.if-starts_statement.ensures)

pub read_statements-loop-preserved : goal.read_statements-loop-preserved
read_statements-loop-preserved t c = λ names.
    let e : map (statement_tree names) c.push.new.self.items ≡ map (statement_tree names) c.loop.all.items ++ statement_tree names c.in_ok-next.next ∷ [] = rw c.in_ok-push.ensures.items (map_push _ c.loop.all.items c.in_ok-next.next) in
    rw e (goes_on statement_set (statement_to names c.args.depth) (map (statement_tree names) c.loop.all.items) (length c.args.ts.now) c.loop.counter c.loop.rest.now _ (c.loop.invariant names) (statement_tree names c.in_ok-next.next) c.in_ok-next.after.now c.loop-test.true (sym c.if-not-starts_statement.ensures) (c.in_ok-next.ensures names))

pub read_statements-returns-in_err-next : goal.read_statements-returns-in_err-next
read_statements-returns-in_err-next t c = λ names.
    let p = err_from_is_err_and c.from_residual.result c.from_residual.ensures.1 in
    rw (p.1, p.2) (fails statement_set (statement_to names c.args.depth) (map (statement_tree names) c.loop.all.items) (length c.args.ts.now) c.loop.counter c.loop.rest.now _ (c.loop.invariant names) c.in_err-next.field-0.0 c.loop-test.true (sym c.if-not-starts_statement.ensures) (c.in_err-next.ensures names))

-- ---- read_block

pub read_block-returns : goal.read_block-returns
unfolding block_by
read_block-returns t c = λ names. between_ok LeftBrace RightBrace (many statement_set (statement_to names c.args.depth)) c.args.ts.now _ _ c.in_ok-rest.ensures _ _ _ _ (c.in_ok-statements.ensures names) c.in_ok-rest-2.ensures

pub read_block-returns-in_err-rest : goal.read_block-returns-in_err-rest
unfolding block_by
read_block-returns-in_err-rest t c = λ names.
    let p = err_from_is_err_and c.from_residual.result c.from_residual.ensures.1 in
    rw (p.1, p.2) (after_missing LeftBrace _ c.args.ts.now c.in_err-rest.field-0.0 c.in_err-rest.ensures)

pub read_block-returns-in_err-statements : goal.read_block-returns-in_err-statements
unfolding block_by
read_block-returns-in_err-statements t c = λ names.
    let p = err_from_is_err_and c.from_residual-in_err-statements.result c.from_residual-in_err-statements.ensures.1 in
    rw (p.1, p.2) (between_fails LeftBrace RightBrace (many statement_set (statement_to names c.args.depth)) c.args.ts.now _ _ c.in_ok-rest.ensures c.in_err-statements.field-0.0 (c.in_err-statements.ensures names))

pub read_block-returns-in_err-rest-2 : goal.read_block-returns-in_err-rest-2
unfolding block_by
read_block-returns-in_err-rest-2 t c = λ names.
    let p = err_from_is_err_and c.from_residual-in_err-rest-2.result c.from_residual-in_err-rest-2.ensures.1 in
    rw (p.1, p.2) (between_open LeftBrace RightBrace (many statement_set (statement_to names c.args.depth)) c.args.ts.now _ _ c.in_ok-rest.ensures _ _ c.in_err-rest-2.field-0.0 (c.in_ok-statements.ensures names) c.in_err-rest-2.ensures)

-- ---- read_for

pub read_for-returns : goal.read_for-returns
unfolding for_by
read_for-returns t c = λ names.
    mapped_ok for_from (after For (then (range_at names) (block_by (statement_to names c.args.depth)))) c.args.ts.now _ _ (after_ok For (then (range_at names) (block_by (statement_to names c.args.depth))) c.args.ts.now _ _ c.in_ok-rest.ensures _ _ (then_ok (range_at names) (block_by (statement_to names c.args.depth)) c.in_ok-rest.rest.now _ _ (c.in_ok-range.ensures names) _ _ (c.in_ok-body.ensures names)))
    ∙ ap (λ (s : StatementTree). Ok (s, c.in_ok-body.rest.now)) (sym (for_tree names _ _ _ c.in_ok-body.body))

pub read_for-returns-in_err-rest : goal.read_for-returns-in_err-rest
unfolding for_by
read_for-returns-in_err-rest t c = λ names.
    let p = err_from_is_err_and c.from_residual.result c.from_residual.ensures.1 in
    rw (p.1, p.2) (mapped_fails for_from (after For (then (range_at names) (block_by (statement_to names c.args.depth)))) c.args.ts.now c.in_err-rest.field-0.0 (after_missing For (then (range_at names) (block_by (statement_to names c.args.depth))) c.args.ts.now c.in_err-rest.field-0.0 c.in_err-rest.ensures))

pub read_for-returns-in_err-range : goal.read_for-returns-in_err-range
unfolding for_by
read_for-returns-in_err-range t c = λ names.
    let p = err_from_is_err_and c.from_residual-in_err-range.result c.from_residual-in_err-range.ensures.1 in
    rw (p.1, p.2) (mapped_fails for_from (after For (then (range_at names) (block_by (statement_to names c.args.depth)))) c.args.ts.now c.in_err-range.field-0.0 (after_fails For (then (range_at names) (block_by (statement_to names c.args.depth))) c.args.ts.now _ _ c.in_ok-rest.ensures c.in_err-range.field-0.0 (then_missing (range_at names) (block_by (statement_to names c.args.depth)) c.in_ok-rest.rest.now c.in_err-range.field-0.0 (c.in_err-range.ensures names))))

pub read_for-returns-in_err-body : goal.read_for-returns-in_err-body
unfolding for_by
read_for-returns-in_err-body t c = λ names.
    let p = err_from_is_err_and c.from_residual-in_err-body.result c.from_residual-in_err-body.ensures.1 in
    rw (p.1, p.2) (mapped_fails for_from (after For (then (range_at names) (block_by (statement_to names c.args.depth)))) c.args.ts.now c.in_err-body.field-0.0 (after_fails For (then (range_at names) (block_by (statement_to names c.args.depth))) c.args.ts.now _ _ c.in_ok-rest.ensures c.in_err-body.field-0.0 (then_fails (range_at names) (block_by (statement_to names c.args.depth)) c.in_ok-rest.rest.now _ _ (c.in_ok-range.ensures names) c.in_err-body.field-0.0 (c.in_err-body.ensures names))))

-- ---- else_or_none

pub else_or_none-returns-in_ok-body : goal.else_or_none-returns-in_ok-body
unfolding maybe_else_by
else_or_none-returns-in_ok-body t c = λ names.
    either_first (Else ∷ []) (after Else (block_by (statement_to names c.args.depth))) (empty []) c.args.ts.now (sym c.if-starts.ensures) ∙ after_ok Else (block_by (statement_to names c.args.depth)) c.args.ts.now _ _ c.in_ok-rest.ensures _ _ (c.in_ok-body.ensures names)

pub else_or_none-returns-in_err-rest : goal.else_or_none-returns-in_err-rest
unfolding maybe_else_by
else_or_none-returns-in_err-rest t c = λ names.
    let p = err_from_is_err_and c.from_residual.result c.from_residual.ensures.1 in
    rw (p.1, p.2) (rw (sym c.if-starts.ensures) (after_missing Else (block_by (statement_to names c.args.depth)) c.args.ts.now c.in_err-rest.field-0.0 c.in_err-rest.ensures))

pub else_or_none-returns-in_err-body : goal.else_or_none-returns-in_err-body
unfolding maybe_else_by
else_or_none-returns-in_err-body t c = λ names.
    let p = err_from_is_err_and c.from_residual-in_err-body.result c.from_residual-in_err-body.ensures.1 in
    rw (p.1, p.2) (rw (sym c.if-starts.ensures) (after_fails Else (block_by (statement_to names c.args.depth)) c.args.ts.now _ _ c.in_ok-rest.ensures c.in_err-body.field-0.0 (c.in_err-body.ensures names)))

pub else_or_none-returns-else-starts : goal.else_or_none-returns-else-starts
unfolding maybe_else_by
else_or_none-returns-else-starts t c = λ names.
    either_second (Else ∷ []) (after Else (block_by (statement_to names c.args.depth))) (empty []) c.args.ts.now (sym c.if-starts.ensures) ∙ ap (λ (ss : List ParamStatement). Ok (map (statement_tree names) ss, c.args.ts.now)) (sym c.new.ensures.items)

-- ---- read_branches

pub read_branches-returns : goal.read_branches-returns
unfolding branches_by
read_branches-returns t c = λ names. then_ok (block_by (statement_to names c.args.depth)) (maybe_else_by (statement_to names c.args.depth)) c.args.ts.now _ _ (c.in_ok-yes.ensures names) _ _ (c.in_ok-no.ensures names)

pub read_branches-returns-in_err-yes : goal.read_branches-returns-in_err-yes
unfolding branches_by
read_branches-returns-in_err-yes t c = λ names.
    let p = err_from_is_err_and c.from_residual.result c.from_residual.ensures.1 in
    rw (p.1, p.2) (then_missing (block_by (statement_to names c.args.depth)) (maybe_else_by (statement_to names c.args.depth)) c.args.ts.now c.in_err-yes.field-0.0 (c.in_err-yes.ensures names))

pub read_branches-returns-in_err-no : goal.read_branches-returns-in_err-no
unfolding branches_by
read_branches-returns-in_err-no t c = λ names.
    let p = err_from_is_err_and c.from_residual-in_err-no.result c.from_residual-in_err-no.ensures.1 in
    rw (p.1, p.2) (then_fails (block_by (statement_to names c.args.depth)) (maybe_else_by (statement_to names c.args.depth)) c.args.ts.now _ _ (c.in_ok-yes.ensures names) c.in_err-no.field-0.0 (c.in_err-no.ensures names))

-- ---- read_if

pub read_if-returns : goal.read_if-returns
unfolding if_by
read_if-returns t c = λ names.
    mapped_ok if_from (after If (then (condition_at names) (branches_by (statement_to names c.args.depth)))) c.args.ts.now _ _ (after_ok If (then (condition_at names) (branches_by (statement_to names c.args.depth))) c.args.ts.now _ _ c.in_ok-rest.ensures _ _ (then_ok (condition_at names) (branches_by (statement_to names c.args.depth)) c.in_ok-rest.rest.now _ _ (c.in_ok-condition.ensures names) _ _ (c.in_ok-branches.ensures names)))
    ∙ ap (λ (s : StatementTree). Ok (s, c.in_ok-branches.rest.now)) (sym (if_tree names _ _ _ c.in_ok-branches.branches.yes c.in_ok-branches.branches.no))

pub read_if-returns-in_err-rest : goal.read_if-returns-in_err-rest
unfolding if_by
read_if-returns-in_err-rest t c = λ names.
    let p = err_from_is_err_and c.from_residual.result c.from_residual.ensures.1 in
    rw (p.1, p.2) (mapped_fails if_from (after If (then (condition_at names) (branches_by (statement_to names c.args.depth)))) c.args.ts.now c.in_err-rest.field-0.0 (after_missing If (then (condition_at names) (branches_by (statement_to names c.args.depth))) c.args.ts.now c.in_err-rest.field-0.0 c.in_err-rest.ensures))

pub read_if-returns-in_err-condition : goal.read_if-returns-in_err-condition
unfolding if_by
read_if-returns-in_err-condition t c = λ names.
    let p = err_from_is_err_and c.from_residual-in_err-condition.result c.from_residual-in_err-condition.ensures.1 in
    rw (p.1, p.2) (mapped_fails if_from (after If (then (condition_at names) (branches_by (statement_to names c.args.depth)))) c.args.ts.now c.in_err-condition.field-0.0 (after_fails If (then (condition_at names) (branches_by (statement_to names c.args.depth))) c.args.ts.now _ _ c.in_ok-rest.ensures c.in_err-condition.field-0.0 (then_missing (condition_at names) (branches_by (statement_to names c.args.depth)) c.in_ok-rest.rest.now c.in_err-condition.field-0.0 (c.in_err-condition.ensures names))))

pub read_if-returns-in_err-branches : goal.read_if-returns-in_err-branches
unfolding if_by
read_if-returns-in_err-branches t c = λ names.
    let p = err_from_is_err_and c.from_residual-in_err-branches.result c.from_residual-in_err-branches.ensures.1 in
    rw (p.1, p.2) (mapped_fails if_from (after If (then (condition_at names) (branches_by (statement_to names c.args.depth)))) c.args.ts.now c.in_err-branches.field-0.0 (after_fails If (then (condition_at names) (branches_by (statement_to names c.args.depth))) c.args.ts.now _ _ c.in_ok-rest.ensures c.in_err-branches.field-0.0 (then_fails (condition_at names) (branches_by (statement_to names c.args.depth)) c.in_ok-rest.rest.now _ _ (c.in_ok-condition.ensures names) c.in_err-branches.field-0.0 (c.in_err-branches.ensures names))))

-- ---- read_statement

pub read_statement-returns-then-starts : goal.read_statement-returns-then-starts
read_statement-returns-then-starts t c = λ names. rw (statement_plain names c.args.depth (c.args.depth - 1) (omega arith) c.args.ts.now (sym c.if-starts.ensures)) (c.read_plain_statement.ensures names)

pub read_statement-returns-then-starts-2 : goal.read_statement-returns-then-starts-2
read_statement-returns-then-starts-2 t c = λ names. rw (statement_for names c.args.depth (c.args.depth - 1) (omega arith) c.args.ts.now (sym c.if-starts.ensures) (sym c.if-starts-2.ensures)) (c.read_for.ensures names)

pub read_statement-returns-else-starts-2 : goal.read_statement-returns-else-starts-2
read_statement-returns-else-starts-2 t c = λ names. rw (statement_if names c.args.depth (c.args.depth - 1) (omega arith) c.args.ts.now (sym c.if-starts.ensures) (sym c.if-starts-2.ensures)) (c.read_if.ensures names)
