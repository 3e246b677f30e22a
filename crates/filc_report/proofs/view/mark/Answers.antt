use Rattle.std.proofs.Common.{◌∙◌, sym, ap, set, arith, add-one, map, take, drop, ◌++◌, ℕ}
use Rattle.std.specs.Prelude.{Bool}
use Rattle.std.specs.Option.{is_some}
use Rattle.std.proofs.lemmas.Option.{slice_get-get_or}
use Rattle.stim_read.specs.TxRun.{transaction_seen}
use Rattle.filc_report.specs.Intervals.{holding}
use Rattle.filc_report.specs.declared.intervals.Interval.{Interval}
use Rattle.filc_report.proofs.TxInputLemmas.{passed_set, marks_more, is_some-map}
use Rattle.filc_report.proofs.view.mark.Goals as goal

pub first_left-first-requires : goal.first_left-first-requires
first_left-first-requires c = c.loop-at.invariant.passed c.loop-at.at _ (slice_get-get_or c.args.intervals.now c.loop-at.at _ c.loop-at-test.true)

pub loop-at-preserved : goal.loop-at-preserved
loop-at-preserved c =
    let at = c.loop-at.at in
    let shows : Interval → Bool = λ i. is_some (holding i c.args.row c.args.txs.now) in
    let none : Interval = record { event = 0; from = 0; to = 0 } in
    record {
      passed = passed_set (λ (i : Interval). i) c.args.intervals.now c.args.txs.now c.loop-at.nexts at c.first_left-first.result c.args.row none (omega (arith, c.requires.each, c.loop-at.auto.nexts)) c.first_left-first.ensures.passed c.loop-at.invariant.passed;
      marks = ap (λ ms. set ms at c.is_some.result) c.loop-at.invariant.marks
          ∙ marks_more shows c.args.intervals.now c.args.shown.now at none c.is_some.result c.loop-at-test.true c.requires.few
          (c.is_some.ensures ∙ sym (is_some-map (λ tx. transaction_seen tx.now) c.holding.result) ∙ ap is_some c.holding.ensures.holds)
          ∙ ap (λ (n : ℕ). map shows (take n c.args.intervals.now) ++ drop n c.args.shown.now) (sym (add-one at));
    }
