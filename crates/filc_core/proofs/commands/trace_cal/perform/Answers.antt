use Rattle.std.proofs.Common.{[], ◌∷◌, ◌++◌, true, subst, ◌∙◌, arith, inl, inr}
use Rattle.hw_names.specs.Name.{Text}
use Rattle.net_core.specs.Netlist.{netlist_of}
use Rattle.net_text.specs.Layout.{net_text}
use Rattle.cal_ast.specs.Tree.{design_of}
use Rattle.stim_read.specs.CycleRun.{run_seen}
use Rattle.filc_calyx.proofs.FaceLemmas.{look_alike}
use Rattle.filc_calyx.proofs.TraceLemmas.{traces_leave}
use Rattle.filc_report.proofs.GivenLemmas.{stimulus_run_is}
use Rattle.filc_report.specs.Runs.{LeavesOfRun, PrintedRun, run_from}
use Rattle.filc_stop.proofs.SinkLemmas.{keeps_all}
use Rattle.filc_stop.specs.declared.stop.Stop.TheVariants as stop
use Rattle.filc_core.proofs.commands.CalRunLaws.{IsNetFor, cal_run_reports, cal_run_stops, driven_of, trace_cal_leaves, trace_cal_reading}
use Rattle.filc_core.proofs.PerformLemmas.{memory_stops, read_both, report_stops, source_stops}
use Rattle.filc_core.specs.commands.TraceCal.{trace_cal}
use Rattle.filc_core.specs.inside.Told.{arguments_told}
use Rattle.filc_core.specs.commands.CalRun.{CalTop}
use Rattle.filc_core.proofs.commands.trace_cal.perform.Goals as goal

pub returns-in_err-design : goal.returns-in_err-design
returns-in_err-design g c =
    let asked = arguments_told c.args.arguments.now in let failed = c.in_err-design.ensures in
    source_stops trace_cal asked (trace_cal_reading asked).reads failed.files c.in_err-design.field-0.0 c.from_residual.ensures.1 failed.unread failed.known failed.read_fault failed.stops

pub returns-in_err-built : goal.returns-in_err-built
returns-in_err-built g c =
    let asked = arguments_told c.args.arguments.now in
    memory_stops trace_cal asked (trace_cal_reading asked).reads c.in_ok-design.ensures.files c.from_residual-in_err-built.ensures.1 (inl tt)

pub returns-in_err-list : goal.returns-in_err-list
returns-in_err-list g c =
    let asked = arguments_told c.args.arguments.now in let design = design_of c.in_ok-design.design.design in let n = netlist_of c.in_ok-built.built.net in
    let first = c.in_ok-design.ensures in let refines = c.in_ok-built.ensures.netlist.refines in let failed = c.in_err-list.ensures in
    let top : CalTop = record { design = design; number = refines.number; comp = refines.top } in
    let made : IsNetFor top n = record { is_top = refines.is_top; at = refines.at; alike = look_alike design refines.top n refines.refines } in
    cal_run_stops trace_cal (trace_cal_reading asked) top n made (record { files = first.files; known = first.known; accepted = λ told. (design, first.read told) }) first.read failed.files
    c.in_err-list.field-0.0 c.from_residual-in_err-list.ensures.1 failed.refused failed.known failed.read_fault failed.stops

pub with_empty_line-requires : goal.with_empty_line-requires
with_empty_line-requires g c = c.in_ok-built.ensures.ready.numbers

pub returns-in_err-head : goal.returns-in_err-head
returns-in_err-head g c =
    let asked = arguments_told c.args.arguments.now in let design = design_of c.in_ok-design.design.design in let first = c.in_ok-design.ensures in let second = c.in_ok-list.ensures in
    report_stops trace_cal asked (read_both trace_cal asked (trace_cal_reading asked).reads (record { files = first.files; known = first.known; accepted = λ told. (design, first.read told) }) second.files second.known)
    stop.Memory c.from_residual-in_err-head.ensures.1 (λ told. inl (keeps_all (g.O.Sink.written c.args.out.now))) (inr (inr tt)) tt (λ fault. absurd (let e = fault in cc e)) (omega arith)

pub returns : goal.returns
returns g c =
    let asked = arguments_told c.args.arguments.now in let design = design_of c.in_ok-design.design.design in let n = netlist_of c.in_ok-built.built.net in let list = c.in_ok-list.list in
    let first = c.in_ok-design.ensures in let is_for = c.in_ok-built.ensures.netlist in let refines = is_for.refines in let second = c.in_ok-list.ensures in
    let top : CalTop = record { design = design; number = refines.number; comp = refines.top } in
    let made : IsNetFor top n = record { is_top = refines.is_top; at = refines.at; alike = look_alike design refines.top n refines.refines } in
    let out = g.O.Sink.written c.args.out.now in let out' = g.O.Sink.written c.run.new.out in
    cal_run_reports trace_cal (trace_cal_reading asked) top n made (record { files = first.files; known = first.known; accepted = λ told. (design, first.read told) }) first.read second.files
    list second.known second.given
    (λ gives. trace_cal_leaves asked (g.F.Files.content c.args.files.now) top (run_seen list) gives c.run.result out out'
    (traces_leave (driven_of top (run_seen list)) n is_for c.in_ok-built.ensures.text c.run.result out out'
    (subst (λ (p : PrintedRun). LeavesOfRun p c.run.result out out') (stimulus_run_is n list (net_text n ++ 10 ∷ []) true)
    (subst (λ (head : Text). LeavesOfRun (run_from n list head true) c.run.result out out') (c.deref.ensures.value ∙ c.in_ok-head.ensures) c.run.ensures.leaves))))
    c.run.ensures.stops c.run.ensures.write_fault c.run.ensures.never_falls
