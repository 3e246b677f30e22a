use Rattle.std.proofs.Common.{◌<◌, length, refl, sym, subst, arith}
use Rattle.std.proofs.lemmas.Option.{slice_get_read}
use Rattle.std.proofs.lemmas.Result.{IfOk-weaker}
use Rattle.net_core.specs.Netlist.{netlist_of}
use Rattle.net_sim.proofs.GiverLemmas.{at_some}
use Rattle.cal_ast.specs.Tree.{component_tree, design_of}
use Rattle.stim_read.specs.CycleRun.{run_seen}
use Rattle.filc_calyx.proofs.ScheduleLemmas.{schedules_from}
use Rattle.filc_calyx.proofs.SubjectLemmas.{can_schedule, driven_is, refines_from}
use Rattle.filc_calyx.specs.Means.{Driven}
use Rattle.filc_calyx.specs.Scheduled.{Schedules, outcome_of}
use Rattle.filc_calyx.specs.inside.Scheduling.{IsScheduleOf, subject_of}
use Rattle.filc_calyx.specs.declared.schedule.Schedule.{Schedule}
use Rattle.filc_calyx.proofs.schedule.make_schedule.Goals as goal

pub schedule_top-requires-clause-can : goal.schedule_top-requires-clause-can
schedule_top-requires-clause-can c =
    let d = c.args.design.now.design in
    let n = netlist_of c.args.built.now.net in
    let number = c.top_of.result in
    let is_top = c.top_of.ensures.top in
    let comp = at_some d.comps.items number c.top_of.ensures.within in
    let control = c.index.result.now in
    let controls = c.in_ok-controls.controls.items in
    let within : number < length controls = omega (arith, c.top_of.ensures.within, c.in_ok-controls.ensures.all) in
    let there = slice_get_read controls (length controls) number control refl within c.index.ensures in
    let refines = refines_from d number is_top comp.0 comp.1 n c.requires.netlist.refines in (
      design_of d,
      component_tree d.names comp.0,
      can_schedule d number is_top comp.0 comp.1 c.requires.design.rules c.requires.design.numbers n refines control (c.in_ok-controls.ensures.each number comp.0 control comp.1 there),
    )

pub returns : goal.returns
returns c = λ driven is_driven.
    let d = c.args.design.now.design in
    let list = c.args.list.now in
    let n = netlist_of c.args.built.now.net in
    let number = c.top_of.result in
    let is_top = c.top_of.ensures.top in
    let comp = at_some d.comps.items number c.top_of.ensures.within in
    let design = design_of d in
    let top = component_tree d.names comp.0 in
    let control = c.index.result.now in
    let controls = c.in_ok-controls.controls.items in
    let within : number < length controls = omega (arith, c.top_of.ensures.within, c.in_ok-controls.ensures.all) in
    let there = slice_get_read controls (length controls) number control refl within c.index.ensures in
    let refines = refines_from d number is_top comp.0 comp.1 n c.requires.netlist.refines in
    let can = can_schedule d number is_top comp.0 comp.1 c.requires.design.rules c.requires.design.numbers n refines control (c.in_ok-controls.ensures.each number comp.0 control comp.1 there) in
    IfOk-weaker c.schedule_top.result (λ (s : Schedule). IsScheduleOf (subject_of design top d.names n (run_seen list)) list.cycles s.clash s.text.items) (λ (s : Schedule). Schedules driven (outcome_of s))
    (λ s scheduled. subst (λ (e : Driven). Schedules e (outcome_of s)) (sym (driven_is d number is_top comp.0 comp.1 list driven is_driven)) (schedules_from design top d.names n refines (run_seen list) s.clash s.text.items scheduled))
    (c.schedule_top.ensures design top can)
