use Rattle.std.proofs.Common.{◌++◌, sym, subst, ◌∙◌}
use Rattle.std.proofs.lemmas.Result.{on_ok_weaker, on_err_weaker}
use Rattle.hw_io.specs.Writing.{AppendsPrefix, Passes}
use Rattle.hw_names.specs.Name.{Text}
use Rattle.hw_names.proofs.NameLemmas.{text_of-slice_get}
use Rattle.fil_share.specs.Uses.{shown_hold}
use Rattle.filc_report.proofs.HoldLemmas.{hold_texts}
use Rattle.filc_report.proofs.holds.push_hold.Goals as goal

pub returns-clause-passed : goal.returns-clause-passed
returns-clause-passed g c =
    let told = g.O.Sink.written in
    let names = c.args.names.now in
    let hold = c.args.hold.now in
    let line =
    hold_texts (shown_hold names hold) c.text.result.now c.as_bytes.result.now c.as_bytes-2.result.now c.as_bytes-3.result.now c.as_bytes-4.result.now c.as_bytes-5.result.now c.text-2.result.now c.as_bytes-6.result.now c.as_bytes-7.result.now c.as_bytes-8.result.now
    (sym (text_of-slice_get names hold.inst c.text.result.now c.text.ensures)) c.as_bytes.ensures.value (c.as_bytes-2.ensures.value ∙ c.format.ensures.text) c.as_bytes-3.ensures.value (c.as_bytes-4.ensures.value ∙ c.format-2.ensures.text) c.as_bytes-5.ensures.value
    (sym (text_of-slice_get names hold.call c.text-2.result.now c.text-2.ensures)) c.as_bytes-6.ensures.value (c.as_bytes-7.ensures.value ∙ c.format-3.ensures.text) c.as_bytes-8.ensures.value in
    on_ok_weaker c.push_texts.result (subst (λ (text : Text). Passes (told c.args.out.now) c.args.held.now (told c.push_texts.new.out) c.push_texts.new.held text) line) c.push_texts.ensures.passed

pub returns-clause-prefix : goal.returns-clause-prefix
returns-clause-prefix g c =
    let told = g.O.Sink.written in
    let names = c.args.names.now in
    let hold = c.args.hold.now in
    let line =
    hold_texts (shown_hold names hold) c.text.result.now c.as_bytes.result.now c.as_bytes-2.result.now c.as_bytes-3.result.now c.as_bytes-4.result.now c.as_bytes-5.result.now c.text-2.result.now c.as_bytes-6.result.now c.as_bytes-7.result.now c.as_bytes-8.result.now
    (sym (text_of-slice_get names hold.inst c.text.result.now c.text.ensures)) c.as_bytes.ensures.value (c.as_bytes-2.ensures.value ∙ c.format.ensures.text) c.as_bytes-3.ensures.value (c.as_bytes-4.ensures.value ∙ c.format-2.ensures.text) c.as_bytes-5.ensures.value
    (sym (text_of-slice_get names hold.call c.text-2.result.now c.text-2.ensures)) c.as_bytes-6.ensures.value (c.as_bytes-7.ensures.value ∙ c.format-3.ensures.text) c.as_bytes-8.ensures.value in
    on_err_weaker c.push_texts.result (subst (λ (text : Text). AppendsPrefix (told c.args.out.now) (told c.push_texts.new.out) (c.args.held.now ++ text)) line) c.push_texts.ensures.prefix
