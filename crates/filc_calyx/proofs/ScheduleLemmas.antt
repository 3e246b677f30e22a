-- The schedule that the run of a netlist gives is that of the design, where the netlist shows what the design does.
use Rattle.std.proofs.Common.{◌≡◌, ℕ, suc, ◌≤◌, ◌++◌, List, [], Option, Some, None, refl, sym, ap, ap₂, ◌∙◌, arith, inl, inr}
use Rattle.hw_names.specs.Name.{Text}
use Rattle.hw_prims.specs.Row.{Trace}
use Rattle.net_core.specs.Netlist.{Netlist}
use Rattle.cal_ast.specs.Tree.{Component, Design}
use Rattle.cal_net.specs.Face.{face}
use Rattle.cal_net.specs.Refining.{RefinesFrom}
use Rattle.stim_read.specs.CycleRun.{Run}
use Rattle.filc_load.specs.Given.{given_inputs}
use Rattle.filc_report.specs.Rows.{lines_text}
use Rattle.filc_stop.specs.Outcome.{conflict_after, done_with}
use Rattle.filc_calyx.proofs.ActingLemmas.{run_acts}
use Rattle.filc_calyx.proofs.LineLemmas.{lines_alike}
use Rattle.filc_calyx.proofs.MeansLemmas.{meant, memories_are, run_meant}
use Rattle.filc_calyx.specs.Means.{IsRun, words_given}
use Rattle.filc_calyx.specs.Scheduled.{Schedules, outcome_at, schedule_line}
use Rattle.filc_calyx.specs.inside.Scheduling.{IsScheduleOf, acting, subject_of}
use Rattle.filc_calyx.specs.declared.schedule.Clash.{Clash}

module _ (design : Design) (top : Component) (names : List Text) (n : Netlist) (refines : RefinesFrom design top n) (run : Run) where
  -- the walked control lets the same act as the run
  lines_walked : (height : ℕ) (trace : Trace) (stop : Option Text) (r : IsRun (meant design top n refines run) height trace stop) (t : ℕ) → t ≤ height
      → lines_text (schedule_line top (acting design top trace)) trace t ≡ lines_text (schedule_line top (r.acts [])) trace t
  lines_walked height trace stop r t few =
      lines_alike top (acting design top trace) (r.acts []) trace trace t
      (λ u less actor. sym (run_acts design top run.cycles (given_inputs (face top) run.settings) (words_given (meant design top n refines run)) height trace stop r actor u (omega (arith, less, few))))
      (λ u less port has. refl)

  pub schedules_from : (clash : Option Clash) (text : Text) → IsScheduleOf (subject_of design top names n run) run.cycles clash text → Schedules (meant design top n refines run) (outcome_at clash text)
  schedules_from None text whole =
      let r = run_meant design top n refines run run.cycles run.cycles whole.trace None whole.runs in
      inr (record {
        trace = whole.trace;
        run = r;
        outcome = ap done_with (whole.text_is ∙ ap₂ ◌++◌ (lines_walked run.cycles whole.trace None r run.cycles (omega arith)) (memories_are design top n refines run whole.trace run.cycles));
      })
  schedules_from (Some clash) text to =
      let r = run_meant design top n refines run run.cycles (suc clash.cycle) to.trace (Some clash.port) to.runs in
      inl (record {
        trace = to.trace;
        row = clash.cycle;
        port = clash.port;
        run = r;
        outcome = ap (λ (lines : Text). conflict_after lines clash.cycle clash.port) (to.text_is ∙ lines_walked (suc clash.cycle) to.trace (Some clash.port) r clash.cycle (omega arith));
      })
