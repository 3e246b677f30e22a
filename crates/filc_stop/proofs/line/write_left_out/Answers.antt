use Rattle.std.proofs.Common.{OnOk, OnErr, subst}
use Rattle.std.specs.Io.KnownBytes.{Appends}
use Rattle.hw_io.specs.Writing.{AppendsPrefix}
use Rattle.filc_stop.proofs.LineLemmas.{left_out_texts}
use Rattle.filc_stop.proofs.line.write_left_out.Goals as goal

pub returns-clause-appended : goal.returns-clause-appended
returns-clause-appended g c =
    let told = g.S.Sink.written in
    subst (λ line. OnOk c.write_texts.result (Appends (told c.args.sink.now) (told c.write_texts.new.sink) line)) (left_out_texts c.args.word.now c.args.place)
    (rw (c.as_bytes.ensures.value, c.as_bytes-2.ensures.value, c.as_bytes-3.ensures.value, c.format.ensures.text, c.as_bytes-4.ensures.value) at c.write_texts.ensures.appended)

pub returns-clause-prefix : goal.returns-clause-prefix
returns-clause-prefix g c =
    let told = g.S.Sink.written in
    subst (λ line. OnErr c.write_texts.result (AppendsPrefix (told c.args.sink.now) (told c.write_texts.new.sink) line)) (left_out_texts c.args.word.now c.args.place)
    (rw (c.as_bytes.ensures.value, c.as_bytes-2.ensures.value, c.as_bytes-3.ensures.value, c.format.ensures.text, c.as_bytes-4.ensures.value) at c.write_texts.ensures.prefix)
