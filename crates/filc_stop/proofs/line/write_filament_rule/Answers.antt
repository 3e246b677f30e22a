use Rattle.std.proofs.Common.{rules}
use Rattle.std.proofs.lemmas.Result.{on_ok_weaker, on_err_weaker}
use Rattle.fil_check.specs.Least.{evidence_of}
use Rattle.filc_stop.specs.Lines.{rule_name, place_text, evidence_text}
use Rattle.filc_stop.specs.declared.language.Language.TheVariants.{Filament}
use Rattle.filc_stop.proofs.LineLemmas.{rule_texts}
use Rattle.filc_stop.proofs.SinkLemmas.{front_cut, shows_cut, feed_cut, line_whole}
use Rattle.filc_stop.proofs.line.write_filament_rule.Goals as goal

pub returns-in_err-write_place-clause-prefix : goal.returns-in_err-write_place-clause-prefix
returns-in_err-write_place-clause-prefix g c =
    let told = g.S.Sink.written in let rule = rule_name Filament c.args.rule in let shows = evidence_text (evidence_of c.args.evidence.now) in
    let parts = rule_texts rule c.args.name.now c.args.item shows in
    let place = place_text rule c.args.name.now c.args.item in
    let prefix = front_cut (told c.args.sink.now) (told c.write_place.new.sink) (told c.write_place.new.sink) (told c.write_place.new.sink) place shows _ parts c.in_err-write_place.ensures.prefix in
    search (rules, prefix)

pub returns-in_err-write_evidence-clause-prefix : goal.returns-in_err-write_evidence-clause-prefix
returns-in_err-write_evidence-clause-prefix g c =
    let told = g.S.Sink.written in let rule = rule_name Filament c.args.rule in let shows = evidence_text (evidence_of c.args.evidence.now) in
    let parts = rule_texts rule c.args.name.now c.args.item shows in
    let place = place_text rule c.args.name.now c.args.item in
    let prefix = shows_cut (told c.args.sink.now) (told c.write_place.new.sink) (told c.write_evidence.new.sink) (told c.write_evidence.new.sink) place shows _ parts c.in_ok-write_place.ensures.appended c.in_err-write_evidence.ensures.prefix in
    search (rules, prefix)

pub returns-clause-appended : goal.returns-clause-appended
returns-clause-appended g c =
    let told = g.S.Sink.written in let rule = rule_name Filament c.args.rule in let shows = evidence_text (evidence_of c.args.evidence.now) in
    let parts = rule_texts rule c.args.name.now c.args.item shows in
    let place = place_text rule c.args.name.now c.args.item in
    on_ok_weaker c.write_whole.result
    (line_whole (told c.args.sink.now) (told c.write_place.new.sink) (told c.write_evidence.new.sink) (told c.write_whole.new.sink) place shows _ parts c.in_ok-write_place.ensures.appended c.in_ok-write_evidence.ensures.appended)
    (rw c.as_bytes.ensures.value at c.write_whole.ensures.appended)

pub returns-clause-prefix : goal.returns-clause-prefix
returns-clause-prefix g c =
    let told = g.S.Sink.written in let rule = rule_name Filament c.args.rule in let shows = evidence_text (evidence_of c.args.evidence.now) in
    let parts = rule_texts rule c.args.name.now c.args.item shows in
    let place = place_text rule c.args.name.now c.args.item in
    on_err_weaker c.write_whole.result
    (feed_cut (told c.args.sink.now) (told c.write_place.new.sink) (told c.write_evidence.new.sink) (told c.write_whole.new.sink) place shows _ parts c.in_ok-write_place.ensures.appended c.in_ok-write_evidence.ensures.appended)
    (rw c.as_bytes.ensures.value at c.write_whole.ensures.prefix)
