use Rattle.std.proofs.Common.{refl, inl}
use Rattle.net_core.specs.Netlist.{netlist_of}
use Rattle.cal_ast.specs.Tree.{design_of}
use Rattle.stim_read.specs.CycleRun.{run_seen}
use Rattle.filc_calyx.proofs.FaceLemmas.{look_alike}
use Rattle.filc_calyx.specs.Scheduled.{IsDriven}
use Rattle.filc_core.proofs.commands.CalRunLaws.{IsNetFor, cal_run_reports, cal_run_stops, driven_of, sched_cal_leaves, sched_cal_reading}
use Rattle.filc_core.proofs.PerformLemmas.{memory_stops, source_stops}
use Rattle.filc_core.specs.commands.SchedCal.{sched_cal}
use Rattle.filc_core.specs.inside.Told.{arguments_told}
use Rattle.filc_core.specs.commands.CalRun.{CalTop}
use Rattle.filc_core.proofs.commands.sched_cal.perform.Goals as goal

pub returns-in_err-design : goal.returns-in_err-design
returns-in_err-design g c =
    let asked = arguments_told c.args.arguments.now in let failed = c.in_err-design.ensures in
    source_stops sched_cal asked (sched_cal_reading asked).reads failed.files c.in_err-design.field-0.0 c.from_residual.ensures.1 failed.unread failed.known failed.read_fault failed.stops

pub returns-in_err-built : goal.returns-in_err-built
returns-in_err-built g c =
    let asked = arguments_told c.args.arguments.now in
    memory_stops sched_cal asked (sched_cal_reading asked).reads c.in_ok-design.ensures.files c.from_residual-in_err-built.ensures.1 (inl tt)

pub returns-in_err-list : goal.returns-in_err-list
returns-in_err-list g c =
    let asked = arguments_told c.args.arguments.now in let design = design_of c.in_ok-design.design.design in let n = netlist_of c.in_ok-built.built.net in
    let first = c.in_ok-design.ensures in let refines = c.in_ok-built.ensures.netlist.refines in let failed = c.in_err-list.ensures in
    let top : CalTop = record { design = design; number = refines.number; comp = refines.top } in
    let made : IsNetFor top n = record { is_top = refines.is_top; at = refines.at; alike = look_alike design refines.top n refines.refines } in
    cal_run_stops sched_cal (sched_cal_reading asked) top n made (record { files = first.files; known = first.known; accepted = λ told. (design, first.read told) }) first.read failed.files
    c.in_err-list.field-0.0 c.from_residual-in_err-list.ensures.1 failed.refused failed.known failed.read_fault failed.stops

pub returns : goal.returns
returns g c =
    let asked = arguments_told c.args.arguments.now in let design = design_of c.in_ok-design.design.design in let n = netlist_of c.in_ok-built.built.net in let list = c.in_ok-list.list in
    let first = c.in_ok-design.ensures in let refines = c.in_ok-built.ensures.netlist.refines in let second = c.in_ok-list.ensures in
    let top : CalTop = record { design = design; number = refines.number; comp = refines.top } in
    let made : IsNetFor top n = record { is_top = refines.is_top; at = refines.at; alike = look_alike design refines.top n refines.refines } in
    let driven : IsDriven c.in_ok-design.design.design list (driven_of top (run_seen list)) = record { design_is = refl; number = refines.number; is_top = refines.is_top; at = refines.at; run_is = refl } in
    let out = g.O.Sink.written c.args.out.now in let out' = g.O.Sink.written c.write_schedule.new.out in
    cal_run_reports sched_cal (sched_cal_reading asked) top n made (record { files = first.files; known = first.known; accepted = λ told. (design, first.read told) }) first.read second.files
    list second.known second.given
    (λ gives. sched_cal_leaves asked (g.F.Files.content c.args.files.now) top (run_seen list) gives c.write_schedule.result out out'
    (c.write_schedule.ensures.leaves (driven_of top (run_seen list)) driven))
    c.write_schedule.ensures.stops c.write_schedule.ensures.write_fault c.write_schedule.ensures.never_falls
