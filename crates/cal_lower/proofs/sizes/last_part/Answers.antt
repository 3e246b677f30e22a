use Rattle.std.proofs.Common.{◌+◌, drop, refl, sym, ◌∙◌}
use Rattle.std.proofs.lemmas.List.{drop_all}
use Rattle.cal_lower.proofs.NextLemmas.{at_index, drop_next}
use Rattle.cal_lower.proofs.SizeLemmas.{last_begin, last_end, last_next_lasts, last_next_over}
use Rattle.cal_lower.proofs.sizes.last_part.Goals.{then-not-is_over, else-not-is_over}
use Rattle.cal_lower.proofs.sizes.last_part.Goals as goal

pub loop-statement-init : goal.loop-statement-init
loop-statement-init c = λ names. last_begin names c.args.number c.args.statements.now (drop 0 c.args.statements.now) refl

pub loop-statement-preserved : goal.loop-statement-preserved
loop-statement-preserved c = λ names.
    let number = c.args.number in
    let ss = c.args.statements.now in
    let i = c.loop-statement.statement-index in
    let s = c.statement-item.result in
    let last = c.loop-statement.last in
    let at = c.loop-statement.next in
    let after = c.in_ok-next.next in
    let next = drop_next ss i s (at_index ss i s c.loop-statement-test.true c.statement-item.is) in
    let so_far = c.loop-statement.invariant names in
    elim c.if-not-is_over.branch [
      | then-not-is_over w ↦
          rw w.last-is (last_next_lasts names number last at after ss (drop i ss) (drop (i + 1) ss) s next (λ k. c.in_ok-next.ensures names k) (λ k. sym (c.is_over.ensures names k) ∙ w.if-not-is_over.true) so_far)
      | else-not-is_over w ↦
          rw w.last-is (last_next_over names number last at after ss (drop i ss) (drop (i + 1) ss) s next (λ k. c.in_ok-next.ensures names k) (λ k. sym (c.is_over.ensures names k) ∙ w.if-not-is_over.false) so_far)
    ]

pub returns : goal.returns
returns c = λ names item.
    let ss = c.args.statements.now in
    let i = c.loop-statement.statement-index in
    last_end names c.args.number item c.loop-statement.last c.loop-statement.next ss (drop i ss) (drop_all i ss c.loop-statement-test.false) (c.loop-statement.invariant names)
