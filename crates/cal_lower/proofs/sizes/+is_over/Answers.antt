use Rattle.std.proofs.Common.{◌+◌, drop, refl, sym, ap, ◌∙◌}
use Rattle.std.proofs.lemmas.List.{drop_all}
use Rattle.cal_walk.specs.Left.{is_over}
use Rattle.cal_lower.proofs.NextLemmas.{at_index, drop_next}
use Rattle.cal_lower.proofs.SizeLemmas.{over_end, over_next, over_not, over_start, plan_par, plan_seq}
use Rattle.cal_lower.proofs.sizes.+is_over.Goals as goal

pub is_over-returns-in-Seq : goal.is_over-returns-in-Seq
is_over-returns-in-Seq t c = λ names item.
    c.are_over.ensures names (item + 1) ∙ sym (ap is_over (plan_seq names item c.args.control.now c.in-Seq.statements c.deref.result.now c.in-Seq.is c.deref.ensures.value))

pub is_over-returns-in-Par : goal.is_over-returns-in-Par
is_over-returns-in-Par t c = λ names item.
    c.are_over-in-Par.ensures names (item + 1) ∙ sym (ap is_over (plan_par names item c.args.control.now c.in-Par.statements c.deref-in-Par.result.now c.in-Par.is c.deref-in-Par.ensures.value))

pub are_over-loop-statement-init : goal.are_over-loop-statement-init
are_over-loop-statement-init t c = λ names. over_start names c.args.statements.now (drop 0 c.args.statements.now) refl

pub are_over-returns-then-not-is_over : goal.are_over-returns-then-not-is_over
are_over-returns-then-not-is_over t c = λ names item.
    let ss = c.args.statements.now in
    let i = c.loop-statement.statement-index in
    let s = c.statement-item.result in
    let next = drop_next ss i s (at_index ss i s c.loop-statement-test.true c.statement-item.is) in
    sym (over_not names item ss (drop i ss) (drop (i + 1) ss) s next (λ at. sym (c.is_over.ensures names at) ∙ c.if-not-is_over.true) (c.loop-statement.invariant names))

pub are_over-loop-statement-preserved : goal.are_over-loop-statement-preserved
are_over-loop-statement-preserved t c = λ names.
    let ss = c.args.statements.now in
    let i = c.loop-statement.statement-index in
    let s = c.statement-item.result in
    let next = drop_next ss i s (at_index ss i s c.loop-statement-test.true c.statement-item.is) in
    over_next names ss (drop i ss) (drop (i + 1) ss) s next (λ at. sym (c.is_over.ensures names at) ∙ c.if-not-is_over.false) (c.loop-statement.invariant names)

pub are_over-returns : goal.are_over-returns
are_over-returns t c = λ names item.
    let ss = c.args.statements.now in
    let i = c.loop-statement.statement-index in
    sym (over_end names item ss (drop i ss) (drop_all i ss c.loop-statement-test.false) (c.loop-statement.invariant names))
