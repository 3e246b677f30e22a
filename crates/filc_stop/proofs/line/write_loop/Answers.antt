use Rattle.std.proofs.Common.{rules, ◌≡◌, ◌++◌, [], codes, sym, ◌∙◌}
use Rattle.std.proofs.lemmas.List.{append-nil}
use Rattle.std.proofs.lemmas.Result.{on_err_weaker}
use Rattle.filc_stop.specs.Lines.{spaced, loop_text}
use Rattle.filc_stop.proofs.LineLemmas.{loop_texts}
use Rattle.filc_stop.proofs.SinkLemmas.{gained_none, gained_more, gained_prefix}
use Rattle.filc_stop.proofs.line.write_loop.Goals as goal

pub returns-in_err-write_whole-clause-prefix : goal.returns-in_err-write_whole-clause-prefix
returns-in_err-write_whole-clause-prefix g c =
    let told = g.S.Sink.written in
    let ports = c.args.ports.now in let all = loop_text ports in
    let parts : all ≡ codes " loop" ++ spaced ports = loop_texts ports (sym c.is_empty.ensures ∙ c.if-is_empty.false) in
    let prefix = gained_prefix (told c.args.sink.now) (told c.args.sink.now) (told c.write_whole.new.sink) (codes " loop") all (spaced ports) all parts (gained_none (told c.args.sink.now) all) (rw c.as_bytes.ensures.value at c.in_err-write_whole.ensures.prefix) in
    search (rules, prefix)

pub returns-clause-prefix : goal.returns-clause-prefix
returns-clause-prefix g c =
    let told = g.S.Sink.written in
    let ports = c.args.ports.now in let all = loop_text ports in
    let parts : all ≡ codes " loop" ++ spaced ports = loop_texts ports (sym c.is_empty.ensures ∙ c.if-is_empty.false) in
    let front = gained_more (told c.args.sink.now) (told c.args.sink.now) (told c.write_whole.new.sink) (codes " loop") all (spaced ports) all parts (gained_none (told c.args.sink.now) all) (rw c.as_bytes.ensures.value at c.in_ok-write_whole.ensures.appended) in
    on_err_weaker c.write_ports.result
    (λ late. gained_prefix (told c.args.sink.now) (told c.write_whole.new.sink) (told c.write_ports.new.sink) (spaced ports) (spaced ports) [] all (sym (append-nil (spaced ports))) front late)
    c.write_ports.ensures.prefix
