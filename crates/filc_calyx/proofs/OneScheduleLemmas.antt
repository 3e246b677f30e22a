-- A Calyx design has one schedule under a stimulus.
use Rattle.std.proofs.Common.{◌≡◌, ℕ, suc, ◌+◌, ◌<◌, ◌++◌, [], Option, Some, None, Contains, refl, sym, ap, ap₂, ◌∙◌, arith, inl, inr}
use Rattle.std.proofs.lemmas.Option.{same_Some}
use Rattle.hw_names.specs.Name.{Text}
use Rattle.hw_prims.specs.Row.{Trace}
use Rattle.net_core.specs.Circuit.{states_before}
use Rattle.cal_ast.specs.Keeping.{AreOne}
use Rattle.cal_ast.specs.Plain.{HasPlainTree}
use Rattle.cal_ast.specs.Rules.{CalRules}
use Rattle.cal_ast.specs.Tree.{Component, Design}
use Rattle.cal_net.specs.Face.{face}
use Rattle.cal_runs.proofs.EndLemmas.{runs_are_unique}
use Rattle.cal_runs.proofs.RunLemmas.{same_actors_act}
use Rattle.stim_read.specs.CycleRun.{Run}
use Rattle.filc_load.specs.Given.{given_inputs}
use Rattle.filc_report.proofs.MemoryLemmas.{memories_same}
use Rattle.filc_report.specs.Rows.{lines_text, memories_text}
use Rattle.filc_stop.specs.Outcome.{Outcome, conflict_after, done_with}
use Rattle.filc_calyx.proofs.LineLemmas.{lines_alike}
use Rattle.filc_calyx.proofs.PartLemmas.{memory_is_cell, output_is_port}
use Rattle.filc_calyx.specs.Means.{Driven, IsRun, words_given}
use Rattle.filc_calyx.specs.Scheduled.{RunsThrough, Schedules, StopsInConflict, schedule_line}

module _ (design : Design) (top : Component) (plain : HasPlainTree design) (rules : CalRules design) (in_design : Contains design top) (run : Run) where
  abbrev d : Driven
  d = record { design = design; top = top; run = run }

  abbrev inputs : Trace
  inputs = given_inputs (face top) run.settings

  abbrev lines : (height : ℕ) (trace : Trace) (stop : Option Text) → IsRun d height trace stop → ℕ → Text
  lines height trace stop is t = lines_text (schedule_line top (is.acts [])) trace t

  -- its runs are one
  one_run : (height tall : ℕ) (trace other : Trace) (stop stop' : Option Text) → IsRun d height trace stop → IsRun d tall other stop'
      → AreOne design top (words_given d) (record { height = height; trace = trace; stop = stop }) (record { height = tall; trace = other; stop = stop' })
  one_run height tall trace other stop stop' is is' =
      runs_are_unique design top plain rules in_design run.cycles inputs (words_given d) (record { height = height; trace = trace; stop = stop }) (record { height = tall; trace = other; stop = stop' }) is is'

  -- so are their lines
  lines_are_one : (t height tall : ℕ) (trace other : Trace) (stop stop' : Option Text) → t < height + 1 → (is : IsRun d height trace stop) (is' : IsRun d tall other stop')
      → lines height trace stop is t ≡ lines tall other stop' is' t
  lines_are_one t height tall trace other stop stop' within is is' =
      let one = one_run height tall trace other stop stop' is is' in
      lines_alike top (is.acts []) (is'.acts []) trace other t
      (λ u less actor.
      same_actors_act design top plain rules in_design run.cycles run.cycles inputs (words_given d) height tall trace other stop stop' is is' [] top refl actor u (omega (arith, less, within)) (omega (arith, less, within, one.heights)))
      (λ u less port has. one.ports u port (omega (arith, less, within)) (output_is_port design top port has))

  two_conflicts : (o o' : Outcome) → StopsInConflict d o → StopsInConflict d o' → o ≡ o'
  two_conflicts o o' p q =
      let one = one_run (suc p.row) (suc q.row) p.trace q.trace (Some p.port) (Some q.port) p.run q.run in
      let row : p.row ≡ q.row = omega (arith, one.heights) in
      let port = same_Some p.port q.port one.stops in
      let same = lines_are_one p.row (suc p.row) (suc q.row) p.trace q.trace (Some p.port) (Some q.port) (omega arith) p.run q.run in
      p.outcome ∙ ap (λ (text : Text). conflict_after text p.row p.port) same
      ∙ ap₂ (λ (t : ℕ) (name : Text). conflict_after (lines (suc q.row) q.trace (Some q.port) q.run t) t name) row port ∙ sym q.outcome

  not_both : (o o' : Outcome) → StopsInConflict d o → RunsThrough d o' → ⊥
  not_both o o' p q = let stops = (one_run (suc p.row) run.cycles p.trace q.trace (Some p.port) None p.run q.run).stops in cc stops

  two_whole : (o o' : Outcome) → RunsThrough d o → RunsThrough d o' → o ≡ o'
  two_whole o o' p q =
      let one = one_run run.cycles run.cycles p.trace q.trace None None p.run q.run in
      let same = lines_are_one run.cycles run.cycles run.cycles p.trace q.trace None None (omega arith) p.run q.run in
      let memories : memories_text (face top) (states_before run.cycles p.trace (words_given d)) ≡ memories_text (face top) (states_before run.cycles q.trace (words_given d)) =
      memories_same (face top) (states_before run.cycles p.trace (words_given d)) (states_before run.cycles q.trace (words_given d))
      (λ name prim is. one.states run.cycles name prim (omega arith) (memory_is_cell design top plain rules in_design name prim is)) in
      p.outcome ∙ ap done_with (ap₂ ◌++◌ same memories) ∙ sym q.outcome

  pub one_schedule : (o o' : Outcome) → Schedules d o → Schedules d o' → o ≡ o'
  one_schedule o o' (inl p) (inl q) = two_conflicts o o' p q
  one_schedule o o' (inl p) (inr q) = absurd (not_both o o' p q)
  one_schedule o o' (inr p) (inl q) = absurd (not_both o' o q p)
  one_schedule o o' (inr p) (inr q) = two_whole o o' p q
