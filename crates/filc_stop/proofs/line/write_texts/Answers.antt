use Rattle.std.proofs.Common.{rules, ◌+◌, drop, arith}
use Rattle.std.proofs.lemmas.List.{at_drop_more}
use Rattle.filc_stop.specs.Stops.{joined}
use Rattle.filc_stop.proofs.SinkLemmas.{gained_more, gained_prefix}
use Rattle.filc_stop.proofs.line.write_texts.Goals as goal

pub returns-in_err-write_whole-clause-prefix : goal.returns-in_err-write_whole-clause-prefix
returns-in_err-write_whole-clause-prefix g c =
    let told = g.S.Sink.written in
    let parts = at_drop_more joined c.args.texts.now c.loop-text.text-index _ c.loop-text-test.true in
    let prefix = gained_prefix (told c.args.sink.now) (told c.loop-text.sink) (told c.write_whole.new.sink) _ _ (joined (drop (c.loop-text.text-index + 1) c.args.texts.now)) (joined c.args.texts.now) parts c.loop-text.invariant.gained c.in_err-write_whole.ensures.prefix in
    search (rules, prefix)

pub loop-text-preserved : goal.loop-text-preserved
loop-text-preserved g c =
    let told = g.S.Sink.written in
    let parts = at_drop_more joined c.args.texts.now c.loop-text.text-index _ c.loop-text-test.true in
    record {
      gained = gained_more (told c.args.sink.now) (told c.loop-text.sink) (told c.write_whole.new.sink) _ _ (joined (drop (c.loop-text.text-index + 1) c.args.texts.now)) (joined c.args.texts.now) parts c.loop-text.invariant.gained c.in_ok-write_whole.ensures.appended;
      never_falls = omega (arith, c.in_ok-write_whole.ensures.never_falls);
    }
