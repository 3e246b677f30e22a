use Rattle.std.proofs.Common.{rules, subst, ◌++◌, sym, append_assoc}
use Rattle.std.proofs.lemmas.Result.{on_ok_weaker, on_err_weaker}
use Rattle.hw_io.specs.Writing.{AppendsPrefix, Passes}
use Rattle.hw_io.proofs.WritingLemmas.{passed_both, passed_prefix, prefix_longer}
use Rattle.hw_names.specs.Name.{Text}
use Rattle.filc_report.specs.Rows.{marked_port}
use Rattle.filc_report.proofs.LineLemmas.{put_passes, line_passes}
use Rattle.filc_report.proofs.report.pass_port.Goals as goal

pub returns-then-fits-clause-passed : goal.returns-then-fits-clause-passed
returns-then-fits-clause-passed g c =
    let told = g.O.Sink.written c.args.out.now in
    let held = c.args.held.now in let line = c.args.line.now in
    let text = marked_port c.args.port.now c.args.value c.args.shown in
    let passed = subst (λ (after : Text). Passes told (held ++ line) told (held ++ after) text) (sym c.put_port.ensures.put) (put_passes told held line text) in
    search (rules, passed)

pub returns-in_err-push-clause-prefix : goal.returns-in_err-push-clause-prefix
returns-in_err-push-clause-prefix g c =
    let told = g.O.Sink.written in
    let held = c.args.held.now in let line = c.args.line.now in
    let text = marked_port c.args.port.now c.args.value c.args.shown in
    let broken = subst (λ (bytes : Text). AppendsPrefix (told c.args.out.now) (told c.push.new.sink) (held ++ bytes)) c.bytes.ensures c.in_err-push.ensures.prefix in
    let prefix = prefix_longer (told c.args.out.now) (told c.push.new.sink) (held ++ line) text broken in
    search (rules, prefix)

pub returns-clause-passed : goal.returns-clause-passed
returns-clause-passed g c =
    let told = g.O.Sink.written in
    let held = c.args.held.now in let line = c.args.line.now in
    let text = marked_port c.args.port.now c.args.value c.args.shown in
    let before = subst (λ (bytes : Text). Passes (told c.args.out.now) held (told c.push.new.sink) c.push.new.self bytes) c.bytes.ensures c.in_ok-push.ensures.passed in
    on_ok_weaker c.push_marked.result
    (λ passed. subst (λ (left : Text). Passes (told c.args.out.now) (held ++ line) (told c.push_marked.new.out) (c.push_marked.new.held ++ left) text) (sym c.clear.ensures)
    (line_passes (told c.args.out.now) (told c.push_marked.new.out) held line text c.push_marked.new.held (passed_both before passed)))
    c.push_marked.ensures.passed

pub returns-clause-prefix : goal.returns-clause-prefix
returns-clause-prefix g c =
    let told = g.O.Sink.written in
    let held = c.args.held.now in let line = c.args.line.now in
    let text = marked_port c.args.port.now c.args.value c.args.shown in
    let before = subst (λ (bytes : Text). Passes (told c.args.out.now) held (told c.push.new.sink) c.push.new.self bytes) c.bytes.ensures c.in_ok-push.ensures.passed in
    on_err_weaker c.push_marked.result
    (λ prefix. subst (λ (bytes : Text). AppendsPrefix (told c.args.out.now) (told c.push_marked.new.out) bytes) (sym (append_assoc held line text)) (passed_prefix text before prefix))
    c.push_marked.ensures.prefix
