use Rattle.std.proofs.Common.{◌≡◌, ◌-◌, ◌+◌, suc, List, [], ◌∷◌, ◌++◌, length, map, sym, ap, ◌∙◌, subst, refl, arith}
use Rattle.std.proofs.lemmas.List.{map_push}
use Rattle.std.proofs.lemmas.Result.{err_from_is_err_and}
use Rattle.hw_names.specs.Name.{Text}
use Rattle.hw_grammar.specs.declared.sort.Sort.TheVariants.{LeftParen, RightParen, And, Or, Not}
use Rattle.hw_grammar.specs.Reading.{Gives, Fails, after, between, with_front, many}
use Rattle.hw_grammar.proofs.Loop.{goes_on, stops, fails, ends, runs_out}
use Rattle.net_core.specs.Guard.{guard_tree}
use Rattle.cal_ast.specs.Tree.{port_tree}
use Rattle.cal_parse.specs.inside.Reading.{unit_by, conjunction_by, guard_to}
use Rattle.hw_grammar.proofs.Steps.{after_ok, after_fails, between_fails, between_open, alone}
use Rattle.cal_parse.proofs.GuardLaws.{operand_parentheses, operand_source, operand_fails, unit_negated, unit_parentheses, unit_test, negated_ok, negated_missing, negated_fails, conjunction_ok, conjunction_missing, conjunction_fails, guard_ok, guard_missing, guard_fails}
use Rattle.cal_parse.proofs.guard.+guards.Goals as goal

-- ---- read_parentheses

pub read_parentheses-returns-in_err-guard : goal.read_parentheses-returns-in_err-guard
read_parentheses-returns-in_err-guard t c = λ names.
    let p = err_from_is_err_and c.from_residual-in_err-guard.result c.from_residual-in_err-guard.ensures.1 in
    rw (p.1, p.2) (between_fails LeftParen RightParen (guard_to names c.args.depth) c.args.ts.now _ _ c.in_ok-rest.ensures c.in_err-guard.field-0.0 (c.in_err-guard.ensures names))

pub read_parentheses-returns-in_err-rest-2 : goal.read_parentheses-returns-in_err-rest-2
read_parentheses-returns-in_err-rest-2 t c = λ names.
    let p = err_from_is_err_and c.from_residual-in_err-rest-2.result c.from_residual-in_err-rest-2.ensures.1 in
    rw (p.1, p.2) (between_open LeftParen RightParen (guard_to names c.args.depth) c.args.ts.now _ _ c.in_ok-rest.ensures _ _ c.in_err-rest-2.field-0.0 (c.in_ok-guard.ensures names) c.in_err-rest-2.ensures)

-- ---- read_operand

pub read_operand-returns-then-starts : goal.read_operand-returns-then-starts
read_operand-returns-then-starts t c = λ names. rw (operand_parentheses names (guard_to names c.args.depth) c.args.ts.now (sym c.if-starts.ensures)) (c.read_parentheses.ensures names)

pub read_operand-returns-in_ok-new : goal.read_operand-returns-in_ok-new
read_operand-returns-in_ok-new t c = λ names. rw c.in_ok-new.ensures.ok (operand_source names (guard_to names c.args.depth) c.args.ts.now _ _ (sym c.if-starts.ensures) (c.in_ok-source.ensures names))

pub read_operand-returns-in_err-source : goal.read_operand-returns-in_err-source
read_operand-returns-in_err-source t c = λ names.
    let p = err_from_is_err_and c.from_residual.result c.from_residual.ensures.1 in
    rw (p.1, p.2) (operand_fails names (guard_to names c.args.depth) c.args.ts.now c.in_err-source.field-0.0 (sym c.if-starts.ensures) (c.in_err-source.ensures names))

-- ---- read_negated

pub read_negated-returns : goal.read_negated-returns
read_negated-returns t c = λ names.
    negated_ok names (guard_to names c.args.depth) c.args.ts.now _ _ c.in_ok-rest.ensures _ _ c.read_negations-count.ensures.count c.read_negations-count.ensures.rest _ _ _ (c.in_ok-operand.ensures names) (ap (guard_tree (port_tree names)) c.in_ok-new.ensures.ok ∙ c.in_ok-negated.ensures names)

pub read_negated-returns-in_err-operand : goal.read_negated-returns-in_err-operand
read_negated-returns-in_err-operand t c = λ names.
    let p = err_from_is_err_and c.from_residual-in_err-operand.result c.from_residual-in_err-operand.ensures.1 in
    rw (p.1, p.2) (negated_fails names (guard_to names c.args.depth) c.args.ts.now _ _ c.in_ok-rest.ensures _ _ c.read_negations-count.ensures.count c.read_negations-count.ensures.rest c.in_err-operand.field-0.0 (c.in_err-operand.ensures names))

-- ---- read_unit

pub read_negated-returns-in_err-rest : goal.read_negated-returns-in_err-rest
read_negated-returns-in_err-rest t c = λ names.
    let p = err_from_is_err_and c.from_residual.result c.from_residual.ensures.1 in
    rw (p.1, p.2) (negated_missing names (guard_to names c.args.depth) c.args.ts.now c.in_err-rest.field-0.0 c.in_err-rest.ensures)

pub read_unit-returns-then-starts : goal.read_unit-returns-then-starts
read_unit-returns-then-starts t c = λ names. rw (unit_negated names (guard_to names c.args.depth) c.args.ts.now (sym c.if-starts.ensures)) (c.read_negated.ensures names)

pub read_unit-returns-then-starts-2 : goal.read_unit-returns-then-starts-2
read_unit-returns-then-starts-2 t c = λ names. rw (unit_parentheses names (guard_to names c.args.depth) c.args.ts.now (sym c.if-starts.ensures) (sym c.if-starts-2.ensures)) (c.read_parentheses.ensures names)

pub read_unit-returns-else-starts-2 : goal.read_unit-returns-else-starts-2
read_unit-returns-else-starts-2 t c = λ names. rw (unit_test names (guard_to names c.args.depth) c.args.ts.now (sym c.if-starts.ensures) (sym c.if-starts-2.ensures)) (c.read_test.ensures names)

-- ---- more_units

pub more_units-returns-then-not-starts : goal.more_units-returns-then-not-starts
more_units-returns-then-not-starts t c = λ names. stops (And ∷ []) (after And (unit_by names (guard_to names c.args.depth))) (map (guard_tree (port_tree names)) c.loop.all.items) (length c.args.ts.now) c.loop.counter c.loop.rest.now _ (c.loop.invariant names) c.loop-test.true (sym c.if-not-starts.ensures)

pub more_units-returns-then-starts : goal.more_units-returns-then-starts
more_units-returns-then-starts t c = λ names. runs_out (And ∷ []) (after And (unit_by names (guard_to names c.args.depth))) (map (guard_tree (port_tree names)) c.loop.all.items) (length c.args.ts.now) c.loop.counter c.loop.rest.now _ (c.loop.invariant names) c.loop-test.false (sym c.if-starts.ensures)

pub more_units-returns : goal.more_units-returns
more_units-returns t c = λ names. ends (And ∷ []) (after And (unit_by names (guard_to names c.args.depth))) (map (guard_tree (port_tree names)) c.loop.all.items) (length c.args.ts.now) c.loop.counter c.loop.rest.now _ (c.loop.invariant names) c.loop-test.false (sym c.if-starts.ensures)

pub more_units-loop-preserved : goal.more_units-loop-preserved
more_units-loop-preserved t c = λ names.
    let e : map (guard_tree (port_tree names)) c.push.new.self.items ≡ map (guard_tree (port_tree names)) c.loop.all.items ++ guard_tree (port_tree names) c.in_ok-next.next ∷ [] = rw c.in_ok-push.ensures.items (map_push _ c.loop.all.items c.in_ok-next.next) in
    rw e (goes_on (And ∷ []) (after And (unit_by names (guard_to names c.args.depth))) (map (guard_tree (port_tree names)) c.loop.all.items) (length c.args.ts.now) c.loop.counter c.loop.rest.now _ (c.loop.invariant names) (guard_tree (port_tree names) c.in_ok-next.next) c.in_ok-next.after.now c.loop-test.true (sym c.if-not-starts.ensures)
    (after_ok And (unit_by names (guard_to names c.args.depth)) c.loop.rest.now _ _ c.in_ok-mid.ensures _ _ (c.in_ok-next.ensures names)))

pub more_units-returns-in_err-next : goal.more_units-returns-in_err-next
more_units-returns-in_err-next t c = λ names.
    let p = err_from_is_err_and c.from_residual-in_err-next.result c.from_residual-in_err-next.ensures.1 in
    rw (p.1, p.2) (fails (And ∷ []) (after And (unit_by names (guard_to names c.args.depth))) (map (guard_tree (port_tree names)) c.loop.all.items) (length c.args.ts.now) c.loop.counter c.loop.rest.now _ (c.loop.invariant names) c.in_err-next.field-0.0 c.loop-test.true (sym c.if-not-starts.ensures) (after_fails And (unit_by names (guard_to names c.args.depth)) c.loop.rest.now _ _ c.in_ok-mid.ensures c.in_err-next.field-0.0 (c.in_err-next.ensures names)))

-- ---- more_conjunctions

pub more_conjunctions-returns-then-not-starts : goal.more_conjunctions-returns-then-not-starts
more_conjunctions-returns-then-not-starts t c = λ names. stops (Or ∷ []) (after Or (conjunction_by names (guard_to names c.args.depth))) (map (guard_tree (port_tree names)) c.loop.all.items) (length c.args.ts.now) c.loop.counter c.loop.rest.now _ (c.loop.invariant names) c.loop-test.true (sym c.if-not-starts.ensures)

pub more_conjunctions-returns-then-starts : goal.more_conjunctions-returns-then-starts
more_conjunctions-returns-then-starts t c = λ names. runs_out (Or ∷ []) (after Or (conjunction_by names (guard_to names c.args.depth))) (map (guard_tree (port_tree names)) c.loop.all.items) (length c.args.ts.now) c.loop.counter c.loop.rest.now _ (c.loop.invariant names) c.loop-test.false (sym c.if-starts.ensures)

pub more_conjunctions-returns : goal.more_conjunctions-returns
more_conjunctions-returns t c = λ names. ends (Or ∷ []) (after Or (conjunction_by names (guard_to names c.args.depth))) (map (guard_tree (port_tree names)) c.loop.all.items) (length c.args.ts.now) c.loop.counter c.loop.rest.now _ (c.loop.invariant names) c.loop-test.false (sym c.if-starts.ensures)

pub more_conjunctions-loop-preserved : goal.more_conjunctions-loop-preserved
more_conjunctions-loop-preserved t c = λ names.
    let e : map (guard_tree (port_tree names)) c.push.new.self.items ≡ map (guard_tree (port_tree names)) c.loop.all.items ++ guard_tree (port_tree names) c.in_ok-next.next ∷ [] = rw c.in_ok-push.ensures.items (map_push _ c.loop.all.items c.in_ok-next.next) in
    rw e (goes_on (Or ∷ []) (after Or (conjunction_by names (guard_to names c.args.depth))) (map (guard_tree (port_tree names)) c.loop.all.items) (length c.args.ts.now) c.loop.counter c.loop.rest.now _ (c.loop.invariant names) (guard_tree (port_tree names) c.in_ok-next.next) c.in_ok-next.after.now c.loop-test.true (sym c.if-not-starts.ensures)
    (after_ok Or (conjunction_by names (guard_to names c.args.depth)) c.loop.rest.now _ _ c.in_ok-mid.ensures _ _ (c.in_ok-next.ensures names)))

pub more_conjunctions-returns-in_err-next : goal.more_conjunctions-returns-in_err-next
more_conjunctions-returns-in_err-next t c = λ names.
    let p = err_from_is_err_and c.from_residual-in_err-next.result c.from_residual-in_err-next.ensures.1 in
    rw (p.1, p.2) (fails (Or ∷ []) (after Or (conjunction_by names (guard_to names c.args.depth))) (map (guard_tree (port_tree names)) c.loop.all.items) (length c.args.ts.now) c.loop.counter c.loop.rest.now _ (c.loop.invariant names) c.in_err-next.field-0.0 c.loop-test.true (sym c.if-not-starts.ensures) (after_fails Or (conjunction_by names (guard_to names c.args.depth)) c.loop.rest.now _ _ c.in_ok-mid.ensures c.in_err-next.field-0.0 (c.in_err-next.ensures names)))

-- ---- read_conjunction

pub read_conjunction-returns : goal.read_conjunction-returns
read_conjunction-returns t c = λ names. conjunction_ok names (guard_to names c.args.depth) c.args.ts.now _ _ (c.in_ok-first.ensures names) _ (ap (map (guard_tree (port_tree names))) (alone _ _ c.in_ok-first.first c.in_ok-push.ensures.items c.new-all.ensures.items)) c.in_ok-all.all.items _ (c.in_ok-all.ensures names) _ (c.all_of.ensures names)

pub read_conjunction-returns-in_err-first : goal.read_conjunction-returns-in_err-first
read_conjunction-returns-in_err-first t c = λ names.
    let p = err_from_is_err_and c.from_residual.result c.from_residual.ensures.1 in
    rw (p.1, p.2) (conjunction_missing names (guard_to names c.args.depth) c.args.ts.now c.in_err-first.field-0.0 (c.in_err-first.ensures names))

pub read_conjunction-returns-in_err-all : goal.read_conjunction-returns-in_err-all
read_conjunction-returns-in_err-all t c = λ names.
    let p = err_from_is_err_and c.from_residual-in_err-all.result c.from_residual-in_err-all.ensures.1 in
    rw (p.1, p.2) (conjunction_fails names (guard_to names c.args.depth) c.args.ts.now _ _ (c.in_ok-first.ensures names) _ (ap (map (guard_tree (port_tree names))) (alone _ _ c.in_ok-first.first c.in_ok-push.ensures.items c.new-all.ensures.items)) c.in_err-all.field-0.0 (c.in_err-all.ensures names))

-- ---- read_guard

pub read_guard-returns : goal.read_guard-returns
read_guard-returns t c = λ names. guard_ok names c.args.depth (c.args.depth - 1) (omega arith) c.args.ts.now _ _ (c.in_ok-first.ensures names) _ (ap (map (guard_tree (port_tree names))) (alone _ _ c.in_ok-first.first c.in_ok-push.ensures.items c.new-all.ensures.items)) c.in_ok-all.all.items _ (c.in_ok-all.ensures names) _ (c.any_of.ensures names)

pub read_guard-returns-in_err-first : goal.read_guard-returns-in_err-first
read_guard-returns-in_err-first t c = λ names.
    let p = err_from_is_err_and c.from_residual.result c.from_residual.ensures.1 in
    rw (p.1, p.2) (guard_missing names c.args.depth (c.args.depth - 1) (omega arith) c.args.ts.now c.in_err-first.field-0.0 (c.in_err-first.ensures names))

pub read_guard-returns-in_err-all : goal.read_guard-returns-in_err-all
read_guard-returns-in_err-all t c = λ names.
    let p = err_from_is_err_and c.from_residual-in_err-all.result c.from_residual-in_err-all.ensures.1 in
    rw (p.1, p.2) (guard_fails names c.args.depth (c.args.depth - 1) (omega arith) c.args.ts.now _ _ (c.in_ok-first.ensures names) _ (ap (map (guard_tree (port_tree names))) (alone _ _ c.in_ok-first.first c.in_ok-push.ensures.items c.new-all.ensures.items)) c.in_err-all.field-0.0 (c.in_err-all.ensures names))
