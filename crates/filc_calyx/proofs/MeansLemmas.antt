-- What comes of the run of a netlist that refines a design is what the design means.
use Rattle.std.proofs.Common.{◌≡◌, ℕ, suc, List, [], ◌++◌, false, Option, Some, None, ap, ap₂, subst₂, ◌∙◌, arith, inl, inr}
use Rattle.hw_names.specs.Name.{Text}
use Rattle.hw_prims.specs.Row.{Trace}
use Rattle.net_core.specs.Circuit.{states_before}
use Rattle.net_core.specs.Netlist.{Netlist}
use Rattle.cal_ast.specs.Keeping.{NetRuns}
use Rattle.cal_ast.specs.Schedule as calyx
use Rattle.cal_ast.specs.Tree.{Component, Design}
use Rattle.cal_net.specs.Face.{face}
use Rattle.cal_net.specs.Refining.{RefinesFrom}
use Rattle.stim_read.specs.CycleRun.{Run}
use Rattle.filc_load.specs.Given.{after_loads, given_inputs}
use Rattle.filc_report.specs.Rows.{memories_text, outputs_of_net, rows_text}
use Rattle.filc_report.specs.Runs.{PrintedRun, RunComes, no_loads, stimulus_run}
use Rattle.filc_stop.specs.Outcome.{Outcome, conflict_after, done_with}
use Rattle.filc_calyx.proofs.FaceLemmas.{LookAlike, look_alike, same_inputs, same_loads, same_memories_text, same_outputs}
use Rattle.filc_calyx.specs.Means.{Driven, Means, output_rows, words_given}

module _ (design : Design) (top : Component) (n : Netlist) (refines : RefinesFrom design top n) (run : Run) where
  abbrev pub meant : Driven
  meant = record { design = design; top = top; run = run }

  abbrev pub printed : PrintedRun
  printed = stimulus_run n run [] false

  alike : LookAlike n (face top)
  alike = look_alike design top n refines

  loads_are : after_loads n run.loads no_loads ≡ words_given meant
  loads_are = same_loads n (face top) alike run.loads no_loads

  -- a run of the netlist is one of the design
  pub run_meant : (asked height : ℕ) (trace : Trace) (stop : Option Text) → NetRuns n asked (given_inputs n run.settings) (after_loads n run.loads no_loads) height trace stop
      → calyx.Run design top asked (given_inputs (face top) run.settings) (words_given meant) height trace stop
  run_meant asked height trace stop is =
      subst₂ (λ (inputs : Trace) (loads : Text → List ℕ). calyx.Run design top asked inputs loads height trace stop) (same_inputs n (face top) alike run.settings) loads_are
      (refines.refines.runs asked (given_inputs n run.settings) (after_loads n run.loads no_loads) height trace stop is)

  -- with the same rows of outputs
  pub rows_are : (trace : Trace) (t : ℕ) → rows_text (outputs_of_net n) trace t ≡ output_rows meant trace t
  rows_are trace t = ap (λ (outs : List Text). rows_text outs trace t) (same_outputs n (face top) alike)

  -- and the same words of memories
  pub memories_are : (trace : Trace) (t : ℕ) → memories_text n (states_before t trace (after_loads n run.loads no_loads)) ≡ memories_text (face top) (states_before t trace (words_given meant))
  memories_are trace t =
      same_memories_text n (face top) alike (states_before t trace (after_loads n run.loads no_loads))
      ∙ ap (λ (loads : Text → List ℕ). memories_text (face top) (states_before t trace loads)) loads_are

  pub means_from : (o : Outcome) → RunComes printed o → Means meant o
  means_from o (inl clash) = inl (record {
    trace = clash.trace;
    row = clash.row;
    port = clash.port;
    run = run_meant run.cycles (suc clash.row) clash.trace (Some clash.port) (record { run = clash.run; stops = (clash.row, omega arith, clash.reported) });
    outcome = clash.outcome ∙ ap (λ (rows : Text). conflict_after rows clash.row clash.port) (rows_are clash.trace clash.row);
  })
  means_from o (inr whole) = inr (record {
    trace = whole.trace;
    run = run_meant run.cycles run.cycles whole.trace None (record { run = whole.run; stops = whole.clean });
    outcome = whole.outcome ∙ ap done_with (ap₂ ◌++◌ (rows_are whole.trace run.cycles) (memories_are whole.trace run.cycles));
  })
