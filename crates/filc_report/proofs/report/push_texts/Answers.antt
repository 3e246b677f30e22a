use Rattle.std.proofs.Common.{rules, ◌+◌, drop, arith}
use Rattle.std.proofs.lemmas.List.{at_drop_more}
use Rattle.filc_stop.specs.Stops.{joined}
use Rattle.filc_stop.proofs.SinkLemmas.{passed_up_to_more, passed_up_to_prefix}
use Rattle.filc_report.proofs.report.push_texts.Goals as goal

pub returns-in_err-push-clause-prefix : goal.returns-in_err-push-clause-prefix
returns-in_err-push-clause-prefix g c =
    let told = g.O.Sink.written in
    let parts = at_drop_more joined c.args.texts.now c.loop-text.text-index _ c.loop-text-test.true in
    let prefix = passed_up_to_prefix (told c.args.out.now) (told c.loop-text.out) (told c.push.new.sink) c.args.held.now c.loop-text.held _ _ (joined (drop (c.loop-text.text-index + 1) c.args.texts.now)) (joined c.args.texts.now) parts c.loop-text.invariant.passed c.in_err-push.ensures.prefix in
    search (rules, prefix)

pub loop-text-preserved : goal.loop-text-preserved
loop-text-preserved g c =
    let told = g.O.Sink.written in
    let parts = at_drop_more joined c.args.texts.now c.loop-text.text-index _ c.loop-text-test.true in
    record {
      passed = passed_up_to_more (told c.args.out.now) (told c.loop-text.out) (told c.push.new.sink) c.args.held.now c.loop-text.held c.push.new.self _ _ (joined (drop (c.loop-text.text-index + 1) c.args.texts.now)) (joined c.args.texts.now) parts c.loop-text.invariant.passed c.in_ok-push.ensures.passed;
      never_falls = omega (arith, c.in_ok-push.ensures.never_falls);
    }
