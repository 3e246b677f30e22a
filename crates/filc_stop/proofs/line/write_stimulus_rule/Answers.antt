use Rattle.std.proofs.Common.{rules, [], ◌++◌, codes, decimal, sym}
use Rattle.std.proofs.lemmas.List.{append-nil}
use Rattle.std.proofs.lemmas.Result.{on_err_weaker}
use Rattle.filc_stop.specs.Lines.{entry_text, stimulus_text}
use Rattle.filc_stop.proofs.LineLemmas.{stimulus_texts}
use Rattle.filc_stop.proofs.SinkLemmas.{gained_none, gained_more, gained_prefix}
use Rattle.filc_stop.proofs.line.write_stimulus_rule.Goals as goal

pub returns-in_err-write_texts-clause-prefix : goal.returns-in_err-write_texts-clause-prefix
returns-in_err-write_texts-clause-prefix g c =
    let told = g.S.Sink.written in
    let rule = c.args.rule in let entry = c.args.entry in let all = stimulus_text rule entry in
    let prefix = gained_prefix (told c.args.sink.now) (told c.args.sink.now) (told c.write_texts.new.sink) (codes "stimulus S" ++ (decimal rule ++ [])) all (entry_text rule entry) all (sym (stimulus_texts rule entry)) (gained_none (told c.args.sink.now) all)
    (rw (c.as_bytes.ensures.value, c.as_bytes-2.ensures.value, c.format.ensures.text) at c.in_err-write_texts.ensures.prefix) in
    search (rules, prefix)

pub returns-clause-prefix : goal.returns-clause-prefix
returns-clause-prefix g c =
    let told = g.S.Sink.written in
    let rule = c.args.rule in let entry = c.args.entry in let all = stimulus_text rule entry in
    let front = gained_more (told c.args.sink.now) (told c.args.sink.now) (told c.write_texts.new.sink) (codes "stimulus S" ++ (decimal rule ++ [])) all (entry_text rule entry) all (sym (stimulus_texts rule entry)) (gained_none (told c.args.sink.now) all)
    (rw (c.as_bytes.ensures.value, c.as_bytes-2.ensures.value, c.format.ensures.text) at c.in_ok-write_texts.ensures.appended) in
    on_err_weaker c.write_entry.result
    (λ late. gained_prefix (told c.args.sink.now) (told c.write_texts.new.sink) (told c.write_entry.new.sink) (entry_text rule entry) (entry_text rule entry) [] all (sym (append-nil (entry_text rule entry))) front late)
    c.write_entry.ensures.prefix
