use Rattle.std.proofs.Common.{◌+◌, drop, refl, ap, sym, ◌∙◌, arith}
use Rattle.std.proofs.lemmas.List.{drop_all}
use Rattle.std.proofs.lemmas.Result.{IfOk-weaker}
use Rattle.cal_ast.specs.declared.tree.Control.{Control}
use Rattle.cal_lower.proofs.NextLemmas.{at_index, drop_next}
use Rattle.cal_lower.proofs.SizeLemmas.{plan}
use Rattle.cal_state.specs.inside.Threads.{lasting_states}
use Rattle.cal_state.proofs.StateSizeLemmas.{states_end, states_if, states_next, states_over, states_par, states_seq, states_start, states_while}
use Rattle.cal_state.proofs.sizes.+after_states.Goals as goal

pub after_states-returns-in-Seq : goal.after_states-returns-in-Seq
after_states-returns-in-Seq t c = λ names item.
    let whole = states_seq names item c.args.control.now c.in-Seq.statements c.deref.result.now c.in-Seq.is c.deref.ensures.value (sym (c.is_over.ensures names item) ∙ c.if-is_over.false) in
    IfOk-weaker c.after_states_in.result _ _ (λ n e. omega (arith, e, whole, c.in_ok-inner.ensures)) (c.after_states_in.ensures names (item + 1))

pub after_states-returns-in_ok-off-in-If : goal.after_states-returns-in_ok-off-in-If
after_states-returns-in_ok-off-in-If t c = λ names item.
    let on = c.in-If.yes in
    let off = c.in-If.no in
    let (other, whole) = states_if names item c.args.control.now c.in-If.port c.in-If.by on off c.in-If.is in
    let one = ap (λ (s : Control). lasting_states (plan names (item + 1) s)) c.deref-in-If.ensures in
    let two = ap (λ (s : Control). lasting_states (plan names other s)) c.deref-in-If-2.ensures in
    let first = c.in_ok-off-in-If.ensures names (item + 1) in
    IfOk-weaker c.after_states-in-If.result _ _ (λ n e. omega (arith, e, whole, one, two, first, c.in_ok-inner.ensures)) (c.after_states-in-If.ensures names other)

pub after_states-returns-in-While : goal.after_states-returns-in-While
after_states-returns-in-While t c = λ names item.
    let whole = states_while names item c.args.control.now c.in-While.port c.in-While.by c.in-While.body c.in-While.is in
    let one = ap (λ (s : Control). lasting_states (plan names (item + 1) s)) c.deref-in-While.ensures in
    IfOk-weaker c.after_states-in-While.result _ _ (λ n e. omega (arith, e, whole, one, c.in_ok-inner.ensures)) (c.after_states-in-While.ensures names (item + 1))

pub after_states_in-loop-statement-init : goal.after_states_in-loop-statement-init
after_states_in-loop-statement-init t c = λ names. states_start names c.args.state c.args.statements.now (drop 0 c.args.statements.now) refl

pub after_states_in-loop-statement-preserved : goal.after_states_in-loop-statement-preserved
after_states_in-loop-statement-preserved t c = λ names.
    let ss = c.args.statements.now in
    let i = c.loop-statement.statement-index in
    let s = c.statement-item.result in
    let next = drop_next ss i s (at_index ss i s c.loop-statement-test.true c.statement-item.is) in
    states_next names c.args.state c.loop-statement.next c.in_ok-next.next ss (drop i ss) (drop (i + 1) ss) s next (λ at. c.in_ok-next.ensures names at) (c.loop-statement.invariant names)

pub after_states_in-returns : goal.after_states_in-returns
after_states_in-returns t c = λ names item.
    let ss = c.args.statements.now in
    let i = c.loop-statement.statement-index in
    states_end names c.args.state item c.loop-statement.next ss (drop i ss) (drop_all i ss c.loop-statement-test.false) (c.loop-statement.invariant names)
