use Rattle.std.proofs.Common.{◌+◌, drop, refl, ap, arith}
use Rattle.std.proofs.lemmas.List.{drop_all}
use Rattle.std.proofs.lemmas.Result.{IfOk-weaker}
use Rattle.cal_ast.specs.declared.tree.Control.{Control}
use Rattle.cal_token.specs.inside.Tokens.{size}
use Rattle.cal_lower.proofs.NextLemmas.{at_index, drop_next}
use Rattle.cal_lower.proofs.SizeLemmas.{counts_end, counts_next, counts_start, plan, plan_par, plan_seq, size_if, size_while}
use Rattle.cal_lower.proofs.sizes.+after_part.Goals as goal

pub after_part-returns-in-Seq : goal.after_part-returns-in-Seq
after_part-returns-in-Seq t c = λ names item.
    let whole = ap size (plan_seq names item c.args.control.now c.in-Seq.statements c.deref.result.now c.in-Seq.is c.deref.ensures.value) in
    IfOk-weaker c.after_parts.result _ _ (λ n e. omega (arith, e, whole, c.in_ok-inner.ensures)) (c.after_parts.ensures names (item + 1))

pub after_part-returns-in-Par : goal.after_part-returns-in-Par
after_part-returns-in-Par t c = λ names item.
    let whole = ap size (plan_par names item c.args.control.now c.in-Par.statements c.deref-in-Par.result.now c.in-Par.is c.deref-in-Par.ensures.value) in
    IfOk-weaker c.after_parts-in-Par.result _ _ (λ n e. omega (arith, e, whole, c.in_ok-inner.ensures)) (c.after_parts-in-Par.ensures names (item + 1))

pub after_part-returns-in_ok-off-in-If : goal.after_part-returns-in_ok-off-in-If
after_part-returns-in_ok-off-in-If t c = λ names item.
    let on = c.in-If.yes in
    let off = c.in-If.no in
    let (other, whole) = size_if names item c.args.control.now c.in-If.port c.in-If.by on off c.in-If.is in
    let one = ap (λ (s : Control). size (plan names (item + 1) s)) c.deref-in-If.ensures in
    let two = ap (λ (s : Control). size (plan names other s)) c.deref-in-If-2.ensures in
    let first = c.in_ok-off-in-If.ensures names (item + 1) in
    IfOk-weaker c.after_part-in-If.result _ _ (λ n e. omega (arith, e, whole, one, two, first, c.in_ok-inner.ensures)) (c.after_part-in-If.ensures names other)

pub after_part-returns-in-While : goal.after_part-returns-in-While
after_part-returns-in-While t c = λ names item.
    let whole = size_while names item c.args.control.now c.in-While.port c.in-While.by c.in-While.body c.in-While.is in
    let one = ap (λ (s : Control). size (plan names (item + 1) s)) c.deref-in-While.ensures in
    IfOk-weaker c.after_part-in-While.result _ _ (λ n e. omega (arith, e, whole, one, c.in_ok-inner.ensures)) (c.after_part-in-While.ensures names (item + 1))

pub after_parts-loop-statement-init : goal.after_parts-loop-statement-init
after_parts-loop-statement-init t c = λ names. counts_start names c.args.number c.args.statements.now (drop 0 c.args.statements.now) refl

pub after_parts-loop-statement-preserved : goal.after_parts-loop-statement-preserved
after_parts-loop-statement-preserved t c = λ names.
    let ss = c.args.statements.now in
    let i = c.loop-statement.statement-index in
    let s = c.statement-item.result in
    let next = drop_next ss i s (at_index ss i s c.loop-statement-test.true c.statement-item.is) in
    counts_next names c.args.number c.loop-statement.next c.in_ok-next.next ss (drop i ss) (drop (i + 1) ss) s next (λ at. c.in_ok-next.ensures names at) (c.loop-statement.invariant names)

pub after_parts-returns : goal.after_parts-returns
after_parts-returns t c = λ names item.
    let ss = c.args.statements.now in
    let i = c.loop-statement.statement-index in
    counts_end names c.args.number item c.loop-statement.next ss (drop i ss) (drop_all i ss c.loop-statement-test.false) (c.loop-statement.invariant names)
