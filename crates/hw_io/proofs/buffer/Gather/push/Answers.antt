use Rattle.std.proofs.lemmas.Result.{on_ok_weaker, on_err_weaker}
use Rattle.hw_io.proofs.WritingLemmas.{passed_all, prefix_after}
use Rattle.hw_io.proofs.buffer.Gather.push.Goals as goal

pub returns-then-bytes-gt-HELD_BYTES-clause-passed : goal.returns-then-bytes-gt-HELD_BYTES-clause-passed
returns-then-bytes-gt-HELD_BYTES-clause-passed g c =
    let written = g.S.Sink.written in
    on_ok_weaker c.write_whole.result
    (passed_all (written c.args.sink.now) (written c.flush.new.sink) (written c.write_whole.new.sink) c.args.self.now c.flush.new.self c.args.bytes.now c.in_ok-flush.ensures.emptied c.in_ok-flush.ensures.appended)
    c.write_whole.ensures.appended

pub returns-then-bytes-gt-HELD_BYTES-clause-prefix : goal.returns-then-bytes-gt-HELD_BYTES-clause-prefix
returns-then-bytes-gt-HELD_BYTES-clause-prefix g c =
    let written = g.S.Sink.written in
    on_err_weaker c.write_whole.result
    (prefix_after (written c.args.sink.now) (written c.flush.new.sink) (written c.write_whole.new.sink) c.args.self.now c.args.bytes.now c.in_ok-flush.ensures.appended)
    c.write_whole.ensures.prefix
