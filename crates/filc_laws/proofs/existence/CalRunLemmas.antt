-- The run of a Calyx design under a stimulus has an outcome, as its schedule means it.
use Rattle.std.proofs.Common.{◌≡◌, ℕ, suc, ◌+◌, ◌<◌, ◌⊎◌, ◌++◌, Option, None, Some, inl, inr, refl, subst, arith}
use Rattle.std.specs.Prelude.{[], Contains}
use Rattle.hw_names.specs.Name.{Text}
use Rattle.hw_prims.specs.Row.{Trace}
use Rattle.net_core.specs.Circuit.{Circuit, EndsInConflict, IsRun, Stops, states_before}
use Rattle.cal_ast.specs.CalRun.{cal_circuit}
use Rattle.cal_ast.specs.Plain.{HasPlainTree}
use Rattle.cal_ast.specs.Rules.{CalRules}
use Rattle.cal_ast.specs.Schedule.{scheduled}
use Rattle.cal_exist.proofs.DesignRunLemmas.{designs_have_runs}
use Rattle.cal_net.specs.Face.{face}
use Rattle.filc_calyx.specs.Means as means
use Rattle.filc_calyx.specs.Means.{Driven, Means, output_rows, words_given}
use Rattle.filc_calyx.specs.Scheduled.{Schedules, schedule_line}
use Rattle.filc_load.specs.Given.{given_inputs}
use Rattle.filc_report.specs.Rows.{lines_text, memories_text}
use Rattle.filc_stop.specs.Outcome.{Outcome, conflict_after, done_with}

module _ (d : Driven) where
  abbrev IsRunSo : ℕ → Trace → Option Text → Type 0
  IsRunSo = means.IsRun d

  -- a run without a Conflict has all its rows
  all_rows : (c : Circuit) (height asked : ℕ) (trace : Trace) → (height ≡ asked) ⊎ ((height < asked) × EndsInConflict c height trace) → Stops c height trace None → height ≡ asked
  all_rows c height asked trace (inl all) clean = all
  all_rows c height asked trace (inr (less, (t, last, port, clash))) clean = absurd (clean t port (omega (arith, last)) clash)

  run_of_all : (height : ℕ) (trace : Trace) → IsRunSo height trace None → height ≡ d.run.cycles
  run_of_all height trace r = all_rows (cal_circuit d.design d.top (scheduled d.design r.acts r.is_done)) height d.run.cycles trace r.run.run.ends r.run.stops

  row_of : (height : ℕ) (trace : Trace) (port : Text) → IsRunSo height trace (Some port) → (row : ℕ) × (height ≡ suc row)
  row_of height trace port r = let t = r.run.stops in (t.0, omega (arith, t.1))

  means_so : (height : ℕ) (trace : Trace) (stop : Option Text) → IsRunSo height trace stop → (o : Outcome) × Means d o
  means_so height trace None r =
      let run : IsRunSo d.run.cycles trace None = subst (λ (h : ℕ). IsRunSo h trace None) (run_of_all height trace r) r in
      (done_with (output_rows d trace d.run.cycles ++ memories_text (face d.top) (states_before d.run.cycles trace (words_given d))), inr (record { trace = trace; run = run; outcome = refl }))
  means_so height trace (Some port) r =
      let row = row_of height trace port r in
      let run : IsRunSo (suc row.0) trace (Some port) = subst (λ (h : ℕ). IsRunSo h trace (Some port)) row.1 r in
      (conflict_after (output_rows d trace row.0) row.0 port, inl (record { trace = trace; row = row.0; port = port; run = run; outcome = refl }))

  schedules_so : (height : ℕ) (trace : Trace) (stop : Option Text) → IsRunSo height trace stop → (o : Outcome) × Schedules d o
  schedules_so height trace None r =
      let run : IsRunSo d.run.cycles trace None = subst (λ (h : ℕ). IsRunSo h trace None) (run_of_all height trace r) r in
      (done_with (lines_text (schedule_line d.top (run.acts [])) trace d.run.cycles ++ memories_text (face d.top) (states_before d.run.cycles trace (words_given d))), inr (record { trace = trace; run = run; outcome = refl }))
  schedules_so height trace (Some port) r =
      let row = row_of height trace port r in
      let run : IsRunSo (suc row.0) trace (Some port) = subst (λ (h : ℕ). IsRunSo h trace (Some port)) row.1 r in
      (conflict_after (lines_text (schedule_line d.top (run.acts [])) trace row.0) row.0 port, inl (record { trace = trace; row = row.0; port = port; run = run; outcome = refl }))

  module _ (plain : HasPlainTree d.design) (rules : CalRules d.design) (has : Contains d.design d.top) where
    pub means_some : (o : Outcome) × Means d o
    means_some =
        let r = designs_have_runs d.design d.top plain rules has d.run.cycles (given_inputs (face d.top) d.run.settings) (words_given d) in means_so r.0.height r.0.trace r.0.stop r.1

    pub schedules_some : (o : Outcome) × Schedules d o
    schedules_some =
        let r = designs_have_runs d.design d.top plain rules has d.run.cycles (given_inputs (face d.top) d.run.settings) (words_given d) in schedules_so r.0.height r.0.trace r.0.stop r.1
