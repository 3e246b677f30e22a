use Rattle.std.proofs.Common.{subst}
use Rattle.std.specs.Io.KnownBytes.{Appends}
use Rattle.hw_io.specs.Writing.{AppendsPrefix}
use Rattle.hw_names.specs.Name.{Text}
use Rattle.filc_stop.specs.declared.stop.Stop.TheVariants as stop
use Rattle.filc_calyx.proofs.WriteLemmas.{conflict_left, part_left, passed_on, whole_left}
use Rattle.filc_calyx.proofs.schedule.write_schedule.Goals as goal

pub returns-in_err-write_text-clause-leaves : goal.returns-in_err-write_text-clause-leaves
returns-in_err-write_text-clause-leaves g c = λ d driven.
    let s = c.in_ok-text.field-0 in
    let out = g.O.Sink.written c.args.out.now in
    let out' = g.O.Sink.written c.write_text.new.out in
    let prefix = subst (λ (text : Text). AppendsPrefix out out' text) c.deref.ensures.value c.in_err-write_text.ensures.prefix in
    passed_on d c.from_residual-in_err-write_text.result stop.WriteFault out out' c.from_residual-in_err-write_text.ensures.1
    (part_left c.args.design.now c.requires.design c.args.list.now d driven s.clash s.text.items (c.in_ok-text.ensures d driven) out out' prefix)

pub returns-in-None-clause-leaves : goal.returns-in-None-clause-leaves
returns-in-None-clause-leaves g c = λ d driven.
    let s = c.in_ok-text.field-0 in
    let out = g.O.Sink.written c.args.out.now in
    let out' = g.O.Sink.written c.write_text.new.out in
    let whole = subst (λ (text : Text). Appends out out' text) c.deref.ensures.value c.in_ok-write_text.ensures.appended in
    whole_left d s.clash s.text.items out out' (c.in_ok-text.ensures d driven) c.in-None.is whole

pub returns-clause-leaves : goal.returns-clause-leaves
returns-clause-leaves g c = λ d driven.
    let s = c.in_ok-text.field-0 in
    let out = g.O.Sink.written c.args.out.now in
    let out' = g.O.Sink.written c.write_text.new.out in
    let whole = subst (λ (text : Text). Appends out out' text) c.deref.ensures.value c.in_ok-write_text.ensures.appended in
    conflict_left d s.clash s.text.items c.in-Some.field-0 out out' (c.in_ok-text.ensures d driven) c.in-Some.is whole
