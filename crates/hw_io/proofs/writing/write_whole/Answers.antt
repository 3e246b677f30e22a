use Rattle.std.proofs.Common.{rules, arith}
use Rattle.std.proofs.lemmas.List.{take_rest}
use Rattle.hw_io.proofs.WritingLemmas.{appends_more, prefix_taken}
use Rattle.hw_io.proofs.writing.write_whole.Goals as goal

pub returns-in_err-taken-clause-prefix : goal.returns-in_err-taken-clause-prefix
returns-in_err-taken-clause-prefix g c =
    let sink = g.S.Sink in
    let all = prefix_taken (sink.written c.args.sink.now) (sink.written c.loop-taken.sink) (sink.written c.put.new.self) c.args.bytes.now c.loop-taken.taken c.loop-taken.invariant.appended c.in_err-taken.ensures.unchanged in
    search (rules, all)

pub loop-taken-preserved : goal.loop-taken-preserved
loop-taken-preserved g c =
    let sink = g.S.Sink in
    record {
      within = search rules;
      appended = appends_more (sink.written c.args.sink.now) (sink.written c.loop-taken.sink) (sink.written c.put.new.self) c.args.bytes.now _ c.loop-taken.taken c.in_ok-taken.field-0 (take_rest c.args.bytes.now c.loop-taken.taken) c.loop-taken.invariant.appended c.in_ok-taken.ensures.appended;
      never_falls = omega (arith, c.in_ok-taken.ensures.never_falls);
    }
