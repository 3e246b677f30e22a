use Rattle.std.proofs.Common.{◌≡◌, ◌-◌, [], ◌∷◌, ◌++◌, length, map, sym, ap, ◌∙◌, arith}
use Rattle.std.proofs.lemmas.List.{map_push}
use Rattle.std.proofs.lemmas.Result.{err_from_is_err_and}
use Rattle.hw_grammar.specs.declared.sort.Sort.TheVariants.{LeftParen, RightParen, Plus, Minus, Star}
use Rattle.hw_grammar.specs.Reading.{after}
use Rattle.hw_grammar.proofs.Loop.{goes_on, stops, fails, ends, runs_out}
use Rattle.hw_grammar.proofs.Steps.{mapped_ok, mapped_fails, after_ok, after_fails, after_missing, between_fails, between_open, alone}
use Rattle.par_parse.specs.Tree.{expression_tree}
use Rattle.par_parse.specs.Grammar.{minus_from}
use Rattle.par_parse.specs.inside.Reading.{atom_by, term_by, next_term_by, signs, expression_to}
use Rattle.par_parse.proofs.ExpressionLaws.{atom_number, atom_no_number, atom_name, atom_no_name, atom_parentheses, term_ok, term_missing, term_fails, next_plus, next_minus, expression_ok, expression_missing, expression_fails}
use Rattle.par_parse.proofs.expression.+expressions.Goals as goal

-- ---- read_parentheses

pub read_parentheses-returns-in_err-expression : goal.read_parentheses-returns-in_err-expression
read_parentheses-returns-in_err-expression t c = λ names.
    let p = err_from_is_err_and c.from_residual-in_err-expression.result c.from_residual-in_err-expression.ensures.1 in
    rw (p.1, p.2) (between_fails LeftParen RightParen (expression_to names c.args.depth) c.args.ts.now _ _ c.in_ok-rest.ensures c.in_err-expression.field-0.0 (c.in_err-expression.ensures names))

pub read_parentheses-returns-in_err-rest-2 : goal.read_parentheses-returns-in_err-rest-2
read_parentheses-returns-in_err-rest-2 t c = λ names.
    let p = err_from_is_err_and c.from_residual-in_err-rest-2.result c.from_residual-in_err-rest-2.ensures.1 in
    rw (p.1, p.2) (between_open LeftParen RightParen (expression_to names c.args.depth) c.args.ts.now _ _ c.in_ok-rest.ensures _ _ c.in_err-rest-2.field-0.0 (c.in_ok-expression.ensures names) c.in_err-rest-2.ensures)

-- ---- read_nested_atom

pub read_nested_atom-returns-in_ok-number : goal.read_nested_atom-returns-in_ok-number
read_nested_atom-returns-in_ok-number t c = λ names. atom_number names (expression_to names c.args.depth) c.args.ts.now _ _ (sym c.if-starts.ensures) c.in_ok-number.ensures

pub read_nested_atom-returns-in_err-number : goal.read_nested_atom-returns-in_err-number
read_nested_atom-returns-in_err-number t c = λ names.
    let p = err_from_is_err_and c.from_residual.result c.from_residual.ensures.1 in
    rw (p.1, p.2) (atom_no_number names (expression_to names c.args.depth) c.args.ts.now c.in_err-number.field-0.0 (sym c.if-starts.ensures) c.in_err-number.ensures)

pub read_nested_atom-returns-in_ok-name : goal.read_nested_atom-returns-in_ok-name
read_nested_atom-returns-in_ok-name t c = λ names. atom_name names (expression_to names c.args.depth) c.args.ts.now (sym c.if-starts.ensures) _ _ (sym c.if-starts-2.ensures) c.in_ok-name.ensures

pub read_nested_atom-returns-in_err-name : goal.read_nested_atom-returns-in_err-name
read_nested_atom-returns-in_err-name t c = λ names.
    let p = err_from_is_err_and c.from_residual-in_err-name.result c.from_residual-in_err-name.ensures.1 in
    rw (p.1, p.2) (atom_no_name names (expression_to names c.args.depth) c.args.ts.now (sym c.if-starts.ensures) c.in_err-name.field-0.0 (sym c.if-starts-2.ensures) c.in_err-name.ensures)

pub read_nested_atom-returns-else-starts-2 : goal.read_nested_atom-returns-else-starts-2
read_nested_atom-returns-else-starts-2 t c = λ names. rw (atom_parentheses names (expression_to names c.args.depth) c.args.ts.now (sym c.if-starts.ensures) (sym c.if-starts-2.ensures)) (c.read_parentheses.ensures names)

-- ---- more_factors

pub more_factors-returns-then-not-starts : goal.more_factors-returns-then-not-starts
more_factors-returns-then-not-starts t c = λ names. stops (Star ∷ []) (after Star (atom_by names (expression_to names c.args.depth))) (map (expression_tree names) c.loop.all.items) (length c.args.ts.now) c.loop.counter c.loop.rest.now _ (c.loop.invariant names) c.loop-test.true (sym c.if-not-starts.ensures)

pub more_factors-returns-then-starts : goal.more_factors-returns-then-starts
more_factors-returns-then-starts t c = λ names. runs_out (Star ∷ []) (after Star (atom_by names (expression_to names c.args.depth))) (map (expression_tree names) c.loop.all.items) (length c.args.ts.now) c.loop.counter c.loop.rest.now _ (c.loop.invariant names) c.loop-test.false (sym c.if-starts.ensures)

pub more_factors-returns : goal.more_factors-returns
more_factors-returns t c = λ names. ends (Star ∷ []) (after Star (atom_by names (expression_to names c.args.depth))) (map (expression_tree names) c.loop.all.items) (length c.args.ts.now) c.loop.counter c.loop.rest.now _ (c.loop.invariant names) c.loop-test.false (sym c.if-starts.ensures)

pub more_factors-loop-preserved : goal.more_factors-loop-preserved
more_factors-loop-preserved t c = λ names.
    let e : map (expression_tree names) c.push.new.self.items ≡ map (expression_tree names) c.loop.all.items ++ expression_tree names c.in_ok-next.next ∷ [] = rw c.in_ok-push.ensures.items (map_push _ c.loop.all.items c.in_ok-next.next) in
    rw e (goes_on (Star ∷ []) (after Star (atom_by names (expression_to names c.args.depth))) (map (expression_tree names) c.loop.all.items) (length c.args.ts.now) c.loop.counter c.loop.rest.now _ (c.loop.invariant names) (expression_tree names c.in_ok-next.next) c.in_ok-next.after.now c.loop-test.true (sym c.if-not-starts.ensures)
    (after_ok Star (atom_by names (expression_to names c.args.depth)) c.loop.rest.now _ _ c.in_ok-mid.ensures _ _ (c.in_ok-next.ensures names)))

pub more_factors-returns-in_err-next : goal.more_factors-returns-in_err-next
more_factors-returns-in_err-next t c = λ names.
    let p = err_from_is_err_and c.from_residual-in_err-next.result c.from_residual-in_err-next.ensures.1 in
    rw (p.1, p.2) (fails (Star ∷ []) (after Star (atom_by names (expression_to names c.args.depth))) (map (expression_tree names) c.loop.all.items) (length c.args.ts.now) c.loop.counter c.loop.rest.now _ (c.loop.invariant names) c.in_err-next.field-0.0 c.loop-test.true (sym c.if-not-starts.ensures) (after_fails Star (atom_by names (expression_to names c.args.depth)) c.loop.rest.now _ _ c.in_ok-mid.ensures c.in_err-next.field-0.0 (c.in_err-next.ensures names)))

-- ---- read_term

pub read_term-returns : goal.read_term-returns
read_term-returns t c = λ names. term_ok names (expression_to names c.args.depth) c.args.ts.now _ _ (c.in_ok-first.ensures names) _ (ap (map (expression_tree names)) (alone _ _ c.in_ok-first.first c.in_ok-push.ensures.items c.new-all.ensures.items)) c.in_ok-all.all.items _ (c.in_ok-all.ensures names) _ (c.product_of.ensures names)

pub read_term-returns-in_err-first : goal.read_term-returns-in_err-first
read_term-returns-in_err-first t c = λ names.
    let p = err_from_is_err_and c.from_residual.result c.from_residual.ensures.1 in
    rw (p.1, p.2) (term_missing names (expression_to names c.args.depth) c.args.ts.now c.in_err-first.field-0.0 (c.in_err-first.ensures names))

pub read_term-returns-in_err-all : goal.read_term-returns-in_err-all
read_term-returns-in_err-all t c = λ names.
    let p = err_from_is_err_and c.from_residual-in_err-all.result c.from_residual-in_err-all.ensures.1 in
    rw (p.1, p.2) (term_fails names (expression_to names c.args.depth) c.args.ts.now _ _ (c.in_ok-first.ensures names) _ (ap (map (expression_tree names)) (alone _ _ c.in_ok-first.first c.in_ok-push.ensures.items c.new-all.ensures.items)) c.in_err-all.field-0.0 (c.in_err-all.ensures names))

-- ---- read_next_term

pub read_next_term-returns-in_ok-term : goal.read_next_term-returns-in_ok-term
read_next_term-returns-in_ok-term t c = λ names. next_plus names (expression_to names c.args.depth) c.args.ts.now (sym c.if-starts.ensures) ∙ after_ok Plus (term_by names (expression_to names c.args.depth)) c.args.ts.now _ _ c.in_ok-rest.ensures _ _ (c.in_ok-term.ensures names)

pub read_next_term-returns-in_err-rest : goal.read_next_term-returns-in_err-rest
read_next_term-returns-in_err-rest t c = λ names.
    let p = err_from_is_err_and c.from_residual.result c.from_residual.ensures.1 in
    rw (p.1, p.2) (rw (next_plus names (expression_to names c.args.depth) c.args.ts.now (sym c.if-starts.ensures)) (after_missing Plus (term_by names (expression_to names c.args.depth)) c.args.ts.now c.in_err-rest.field-0.0 c.in_err-rest.ensures))

pub read_next_term-returns-in_err-term : goal.read_next_term-returns-in_err-term
read_next_term-returns-in_err-term t c = λ names.
    let p = err_from_is_err_and c.from_residual-in_err-term.result c.from_residual-in_err-term.ensures.1 in
    rw (p.1, p.2) (rw (next_plus names (expression_to names c.args.depth) c.args.ts.now (sym c.if-starts.ensures)) (after_fails Plus (term_by names (expression_to names c.args.depth)) c.args.ts.now _ _ c.in_ok-rest.ensures c.in_err-term.field-0.0 (c.in_err-term.ensures names)))

pub read_next_term-returns-in_ok-new : goal.read_next_term-returns-in_ok-new
read_next_term-returns-in_ok-new t c = λ names.
    rw c.in_ok-new.ensures.ok
    (next_minus names (expression_to names c.args.depth) c.args.ts.now (sym c.if-starts.ensures) ∙ mapped_ok minus_from (after Minus (term_by names (expression_to names c.args.depth))) c.args.ts.now _ _ (after_ok Minus (term_by names (expression_to names c.args.depth)) c.args.ts.now _ _ c.in_ok-rest-2.ensures _ _ (c.in_ok-term-2.ensures names)))

pub read_next_term-returns-in_err-rest-2 : goal.read_next_term-returns-in_err-rest-2
read_next_term-returns-in_err-rest-2 t c = λ names.
    let p = err_from_is_err_and c.from_residual-in_err-rest-2.result c.from_residual-in_err-rest-2.ensures.1 in
    rw (p.1, p.2) (rw (next_minus names (expression_to names c.args.depth) c.args.ts.now (sym c.if-starts.ensures)) (mapped_fails minus_from (after Minus (term_by names (expression_to names c.args.depth))) c.args.ts.now c.in_err-rest-2.field-0.0 (after_missing Minus (term_by names (expression_to names c.args.depth)) c.args.ts.now c.in_err-rest-2.field-0.0 c.in_err-rest-2.ensures)))

pub read_next_term-returns-in_err-term-2 : goal.read_next_term-returns-in_err-term-2
read_next_term-returns-in_err-term-2 t c = λ names.
    let p = err_from_is_err_and c.from_residual-in_err-term-2.result c.from_residual-in_err-term-2.ensures.1 in
    rw (p.1, p.2) (rw (next_minus names (expression_to names c.args.depth) c.args.ts.now (sym c.if-starts.ensures)) (mapped_fails minus_from (after Minus (term_by names (expression_to names c.args.depth))) c.args.ts.now c.in_err-term-2.field-0.0 (after_fails Minus (term_by names (expression_to names c.args.depth)) c.args.ts.now _ _ c.in_ok-rest-2.ensures c.in_err-term-2.field-0.0 (c.in_err-term-2.ensures names))))

-- ---- more_terms

pub more_terms-returns-then-not-starts_sign : goal.more_terms-returns-then-not-starts_sign
more_terms-returns-then-not-starts_sign t c = λ names. stops signs (next_term_by names (expression_to names c.args.depth)) (map (expression_tree names) c.loop.all.items) (length c.args.ts.now) c.loop.counter c.loop.rest.now _ (c.loop.invariant names) c.loop-test.true (sym c.if-not-starts_sign.ensures)

pub more_terms-returns-then-starts_sign : goal.more_terms-returns-then-starts_sign
more_terms-returns-then-starts_sign t c = λ names. runs_out signs (next_term_by names (expression_to names c.args.depth)) (map (expression_tree names) c.loop.all.items) (length c.args.ts.now) c.loop.counter c.loop.rest.now _ (c.loop.invariant names) c.loop-test.false (sym c.if-starts_sign.ensures)

pub more_terms-returns : goal.more_terms-returns
more_terms-returns t c = λ names. ends signs (next_term_by names (expression_to names c.args.depth)) (map (expression_tree names) c.loop.all.items) (length c.args.ts.now) c.loop.counter c.loop.rest.now _ (c.loop.invariant names) c.loop-test.false (sym c.if-starts_sign.ensures)

pub more_terms-loop-preserved : goal.more_terms-loop-preserved
more_terms-loop-preserved t c = λ names.
    let e : map (expression_tree names) c.push.new.self.items ≡ map (expression_tree names) c.loop.all.items ++ expression_tree names c.in_ok-next.next ∷ [] = rw c.in_ok-push.ensures.items (map_push _ c.loop.all.items c.in_ok-next.next) in
    rw e (goes_on signs (next_term_by names (expression_to names c.args.depth)) (map (expression_tree names) c.loop.all.items) (length c.args.ts.now) c.loop.counter c.loop.rest.now _ (c.loop.invariant names) (expression_tree names c.in_ok-next.next) c.in_ok-next.after.now c.loop-test.true (sym c.if-not-starts_sign.ensures) (c.in_ok-next.ensures names))

pub more_terms-returns-in_err-next : goal.more_terms-returns-in_err-next
more_terms-returns-in_err-next t c = λ names.
    let p = err_from_is_err_and c.from_residual.result c.from_residual.ensures.1 in
    rw (p.1, p.2) (fails signs (next_term_by names (expression_to names c.args.depth)) (map (expression_tree names) c.loop.all.items) (length c.args.ts.now) c.loop.counter c.loop.rest.now _ (c.loop.invariant names) c.in_err-next.field-0.0 c.loop-test.true (sym c.if-not-starts_sign.ensures) (c.in_err-next.ensures names))

-- ---- read_nested

pub read_nested-returns : goal.read_nested-returns
read_nested-returns t c = λ names. expression_ok names c.args.depth (c.args.depth - 1) (omega arith) c.args.ts.now _ _ (c.in_ok-first.ensures names) _ (ap (map (expression_tree names)) (alone _ _ c.in_ok-first.first c.in_ok-push.ensures.items c.new-all.ensures.items)) c.in_ok-all.all.items _ (c.in_ok-all.ensures names) _ (c.sum_of.ensures names)

pub read_nested-returns-in_err-first : goal.read_nested-returns-in_err-first
read_nested-returns-in_err-first t c = λ names.
    let p = err_from_is_err_and c.from_residual.result c.from_residual.ensures.1 in
    rw (p.1, p.2) (expression_missing names c.args.depth (c.args.depth - 1) (omega arith) c.args.ts.now c.in_err-first.field-0.0 (c.in_err-first.ensures names))

pub read_nested-returns-in_err-all : goal.read_nested-returns-in_err-all
read_nested-returns-in_err-all t c = λ names.
    let p = err_from_is_err_and c.from_residual-in_err-all.result c.from_residual-in_err-all.ensures.1 in
    rw (p.1, p.2) (expression_fails names c.args.depth (c.args.depth - 1) (omega arith) c.args.ts.now _ _ (c.in_ok-first.ensures names) _ (ap (map (expression_tree names)) (alone _ _ c.in_ok-first.first c.in_ok-push.ensures.items c.new-all.ensures.items)) c.in_err-all.field-0.0 (c.in_err-all.ensures names))
