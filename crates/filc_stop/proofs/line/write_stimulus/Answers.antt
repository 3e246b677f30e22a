use Rattle.std.proofs.Common.{rules}
use Rattle.std.proofs.lemmas.Result.{on_ok_weaker, on_err_weaker}
use Rattle.filc_stop.specs.Lines.{stimulus_text, shown_starts}
use Rattle.filc_stop.proofs.LineLemmas.{stimulus_lines}
use Rattle.filc_stop.proofs.SinkLemmas.{front_cut, shows_cut, feed_cut, line_whole}
use Rattle.filc_stop.proofs.line.write_stimulus.Goals as goal

pub returns-in_err-write_stimulus_rule-clause-prefix : goal.returns-in_err-write_stimulus_rule-clause-prefix
returns-in_err-write_stimulus_rule-clause-prefix g c =
    let told = g.S.Sink.written in
    let text = stimulus_text c.args.rule c.args.entry in let shown = shown_starts c.args.rule c.args.first c.args.second c.args.delay in
    let parts = stimulus_lines c.args.rule c.args.entry c.args.first c.args.second c.args.delay in
    let prefix = front_cut (told c.args.sink.now) (told c.write_stimulus_rule.new.sink) (told c.write_stimulus_rule.new.sink) (told c.write_stimulus_rule.new.sink) text shown _ parts c.in_err-write_stimulus_rule.ensures.prefix in
    search (rules, prefix)

pub returns-in_err-write_shown_starts-clause-prefix : goal.returns-in_err-write_shown_starts-clause-prefix
returns-in_err-write_shown_starts-clause-prefix g c =
    let told = g.S.Sink.written in
    let text = stimulus_text c.args.rule c.args.entry in let shown = shown_starts c.args.rule c.args.first c.args.second c.args.delay in
    let parts = stimulus_lines c.args.rule c.args.entry c.args.first c.args.second c.args.delay in
    let prefix = shows_cut (told c.args.sink.now) (told c.write_stimulus_rule.new.sink) (told c.write_shown_starts.new.sink) (told c.write_shown_starts.new.sink) text shown _ parts c.in_ok-write_stimulus_rule.ensures.appended c.in_err-write_shown_starts.ensures.prefix in
    search (rules, prefix)

pub returns-clause-appended : goal.returns-clause-appended
returns-clause-appended g c =
    let told = g.S.Sink.written in
    let text = stimulus_text c.args.rule c.args.entry in let shown = shown_starts c.args.rule c.args.first c.args.second c.args.delay in
    let parts = stimulus_lines c.args.rule c.args.entry c.args.first c.args.second c.args.delay in
    on_ok_weaker c.write_whole.result
    (line_whole (told c.args.sink.now) (told c.write_stimulus_rule.new.sink) (told c.write_shown_starts.new.sink) (told c.write_whole.new.sink) text shown _ parts c.in_ok-write_stimulus_rule.ensures.appended c.in_ok-write_shown_starts.ensures.appended)
    (rw c.as_bytes.ensures.value at c.write_whole.ensures.appended)

pub returns-clause-prefix : goal.returns-clause-prefix
returns-clause-prefix g c =
    let told = g.S.Sink.written in
    let text = stimulus_text c.args.rule c.args.entry in let shown = shown_starts c.args.rule c.args.first c.args.second c.args.delay in
    let parts = stimulus_lines c.args.rule c.args.entry c.args.first c.args.second c.args.delay in
    on_err_weaker c.write_whole.result
    (feed_cut (told c.args.sink.now) (told c.write_stimulus_rule.new.sink) (told c.write_shown_starts.new.sink) (told c.write_whole.new.sink) text shown _ parts c.in_ok-write_stimulus_rule.ensures.appended c.in_ok-write_shown_starts.ensures.appended)
    (rw c.as_bytes.ensures.value at c.write_whole.ensures.prefix)
