use Rattle.std.proofs.Common.{[], false, subst, inl}
use Rattle.std.specs.Prelude.{Contains}
use Rattle.net_core.specs.Netlist.{netlist_of}
use Rattle.cal_ast.proofs.ListLemmas.{Contains-at}
use Rattle.cal_ast.specs.Tree.{design_of}
use Rattle.stim_read.specs.CycleRun.{run_seen}
use Rattle.filc_calyx.proofs.FaceLemmas.{look_alike}
use Rattle.filc_calyx.proofs.PartLemmas.{means_leaves}
use Rattle.filc_calyx.proofs.PlainLemmas.{written_plain}
use Rattle.filc_report.proofs.GivenLemmas.{stimulus_run_is}
use Rattle.filc_report.specs.Runs.{PrintedRun, RunLeaves}
use Rattle.filc_core.proofs.commands.CalRunLaws.{IsNetFor, cal_run_reports, cal_run_stops, sim_cal_leaves, sim_cal_reading}
use Rattle.filc_core.proofs.PerformLemmas.{memory_stops, source_stops}
use Rattle.filc_core.specs.commands.SimCal.{sim_cal}
use Rattle.filc_core.specs.inside.Told.{arguments_told}
use Rattle.filc_core.specs.commands.CalRun.{CalTop}
use Rattle.filc_core.proofs.commands.sim_cal.perform.Goals as goal

pub returns-in_err-design : goal.returns-in_err-design
returns-in_err-design g c =
    let asked = arguments_told c.args.arguments.now in let failed = c.in_err-design.ensures in
    source_stops sim_cal asked (sim_cal_reading asked).reads failed.files c.in_err-design.field-0.0 c.from_residual.ensures.1 failed.unread failed.known failed.read_fault failed.stops

pub returns-in_err-built : goal.returns-in_err-built
returns-in_err-built g c =
    let asked = arguments_told c.args.arguments.now in
    memory_stops sim_cal asked (sim_cal_reading asked).reads c.in_ok-design.ensures.files c.from_residual-in_err-built.ensures.1 (inl tt)

pub returns-in_err-list : goal.returns-in_err-list
returns-in_err-list g c =
    let asked = arguments_told c.args.arguments.now in let design = design_of c.in_ok-design.design.design in let n = netlist_of c.in_ok-built.built.net in
    let first = c.in_ok-design.ensures in let refines = c.in_ok-built.ensures.netlist.refines in let failed = c.in_err-list.ensures in
    let top : CalTop = record { design = design; number = refines.number; comp = refines.top } in
    let made : IsNetFor top n = record { is_top = refines.is_top; at = refines.at; alike = look_alike design refines.top n refines.refines } in
    cal_run_stops sim_cal (sim_cal_reading asked) top n made (record { files = first.files; known = first.known; accepted = λ told. (design, first.read told) }) first.read failed.files
    c.in_err-list.field-0.0 c.from_residual-in_err-list.ensures.1 failed.refused failed.known failed.read_fault failed.stops

pub returns : goal.returns
returns g c =
    let asked = arguments_told c.args.arguments.now in let design = design_of c.in_ok-design.design.design in let n = netlist_of c.in_ok-built.built.net in let list = c.in_ok-list.list in
    let first = c.in_ok-design.ensures in let refines = c.in_ok-built.ensures.netlist.refines in let second = c.in_ok-list.ensures in
    let top : CalTop = record { design = design; number = refines.number; comp = refines.top } in
    let made : IsNetFor top n = record { is_top = refines.is_top; at = refines.at; alike = look_alike design refines.top n refines.refines } in
    let out = g.O.Sink.written c.args.out.now in let out' = g.O.Sink.written c.run.new.out in
    let in_design : Contains design refines.top = Contains-at design refines.number refines.top refines.at in
    cal_run_reports sim_cal (sim_cal_reading asked) top n made (record { files = first.files; known = first.known; accepted = λ told. (design, first.read told) }) first.read second.files
    list second.known second.given
    (λ gives. sim_cal_leaves asked (g.F.Files.content c.args.files.now) top (run_seen list) gives c.run.result out out'
    (means_leaves design refines.top (written_plain design first.ready.written) first.ready.rules in_design (run_seen list) n refines.refines out out' c.run.result
    (subst (λ (p : PrintedRun). RunLeaves p c.run.result out out') (stimulus_run_is n list [] false) c.run.ensures.rows)))
    c.run.ensures.stops c.run.ensures.write_fault c.run.ensures.never_falls
