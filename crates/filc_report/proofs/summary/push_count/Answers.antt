use Rattle.std.proofs.Common.{◌++◌, subst, ◌∙◌}
use Rattle.std.proofs.lemmas.Result.{on_ok_weaker, on_err_weaker}
use Rattle.hw_io.specs.Writing.{AppendsPrefix, Passes}
use Rattle.hw_names.specs.Name.{Text}
use Rattle.filc_report.proofs.SumLemmas.{count_texts}
use Rattle.filc_report.proofs.summary.push_count.Goals as goal

pub returns-clause-passed : goal.returns-clause-passed
returns-clause-passed g c =
    let told = g.O.Sink.written in
    let line = count_texts c.args.name.now c.as_bytes.result.now c.as_bytes-2.result.now c.as_bytes-3.result.now c.args.number c.as_bytes.ensures.value (c.as_bytes-2.ensures.value ∙ c.format.ensures.text) c.as_bytes-3.ensures.value in
    on_ok_weaker c.push_texts.result (subst (λ (text : Text). Passes (told c.args.out.now) c.args.held.now (told c.push_texts.new.out) c.push_texts.new.held text) line) c.push_texts.ensures.passed

pub returns-clause-prefix : goal.returns-clause-prefix
returns-clause-prefix g c =
    let told = g.O.Sink.written in
    let line = count_texts c.args.name.now c.as_bytes.result.now c.as_bytes-2.result.now c.as_bytes-3.result.now c.args.number c.as_bytes.ensures.value (c.as_bytes-2.ensures.value ∙ c.format.ensures.text) c.as_bytes-3.ensures.value in
    on_err_weaker c.push_texts.result (subst (λ (text : Text). AppendsPrefix (told c.args.out.now) (told c.push_texts.new.out) (c.args.held.now ++ text)) line) c.push_texts.ensures.prefix
