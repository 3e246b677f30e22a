-- One schedule comes of the run of a Calyx design.
use Rattle.std.proofs.Common.{◌≡◌, ℕ, zero, suc, ◌+◌, ◌<◌, List, [], ◌∷◌, ◌++◌, if◌then◌else◌, Bool, codes, decimal, flat_map, Option, Some, None, refl, sym, ap, ap₂, ◌∙◌, arith, inl, inr}
use Rattle.std.specs.Prelude.{Contains}
use Rattle.std.proofs.lemmas.Option.{same_Some}
use Rattle.hw_names.specs.Name.{Text}
use Rattle.hw_prims.specs.Row.{Row, Trace}
use Rattle.cal_ast.proofs.ListLemmas.{Contains-here, Contains-there}
use Rattle.cal_ast.specs.Actors.{Actor, actors_of}
use Rattle.cal_ast.specs.Tree.{Component}
use Rattle.cal_net.specs.Face.{face}
use Rattle.cal_runs.proofs.RunLemmas.{same_actors_act}
use Rattle.stim_read.specs.CycleRun.{Run}
use Rattle.filc_calyx.proofs.PartLemmas.{output_is_port}
use Rattle.filc_calyx.specs.Means.{Driven, IsRun, words_given}
use Rattle.filc_calyx.specs.Scheduled.{RunsThrough, Schedules, StopsInConflict, acting_text, actor_name, schedule_line}
use Rattle.filc_load.specs.Given.{given_inputs}
use Rattle.filc_report.specs.Rows.{lines_text, outputs_of_net, port_text}
use Rattle.filc_stop.specs.Outcome.{Contents, Outcome, conflict_after, done_with}
use Rattle.filc_core.proofs.CalRunLemmas.{driven_of}
use Rattle.filc_core.specs.commands.CalRun.{CalTop, GivesTop}
use Rattle.filc_laws.proofs.CalRunLemmas.{in_design, keeps_rules, memories_alike, one_run, plain_tree}

-- ---- lines of a schedule

texts_same : {X : Type 0} (f g : X → Text) (xs : List X) → ((x : X) → Contains xs x → f x ≡ g x) → flat_map f xs ≡ flat_map g xs
texts_same f g [] same = refl
texts_same f g (x ∷ xs) same = ap₂ ◌++◌ (same x (Contains-here x xs)) (texts_same f g xs (λ y has. same y (Contains-there x xs y has)))

-- a line depends on the outputs and on who acts
line_same : (c : Component) (acts acts' : Actor → ℕ → Bool) (t : ℕ) (row row' : Row) → ((actor : Actor) → acts actor t ≡ acts' actor t)
    → ((port : Text) → Contains (outputs_of_net (face c)) port → row port ≡ row' port) → schedule_line c acts t row ≡ schedule_line c acts' t row'
line_same c acts acts' t row row' acting ports =
    ap₂ (λ (values who : Text). decimal t ++ values ++ codes " |" ++ who ++ 10 ∷ [])
    (texts_same (λ port. port_text port (row port)) (λ port. port_text port (row' port)) (outputs_of_net (face c)) (λ port has. ap (port_text port) (ports port has)))
    (texts_same (acting_text acts t) (acting_text acts' t) (actors_of c) (λ actor has. ap (λ (b : Bool). if b then codes " " ++ actor_name actor else []) (acting actor)))

lines_alike : (line line' : ℕ → Row → Text) (trace trace' : Trace) (t : ℕ) → ((k : ℕ) → k < t → line k (trace k) ≡ line' k (trace' k)) → lines_text line trace t ≡ lines_text line' trace' t
lines_alike line line' trace trace' zero same = refl
lines_alike line line' trace trace' (suc t) same = ap₂ ◌++◌ (lines_alike line line' trace trace' t (λ k before. same k (omega (arith, before)))) (same t (omega arith))

-- ---- the schedule of a run

module _ (top : CalTop) (contents : Contents) (file : Text) (gives : GivesTop contents file top) (run : Run) where
  abbrev d : Driven
  d = driven_of top run

  -- the lines of the first rows, where these actors act
  abbrev lines_with : (Actor → ℕ → Bool) → Trace → ℕ → Text
  lines_with acts trace t = lines_text (schedule_line top.comp acts) trace t

  -- two runs let the same act in each row that both have
  acting_alike : (height tall : ℕ) (trace other : Trace) (stop stop' : Option Text) (is : IsRun d height trace stop) (is' : IsRun d tall other stop') (actor : Actor) (t : ℕ) → t < height → t < tall
      → is.acts [] actor t ≡ is'.acts [] actor t
  acting_alike height tall trace other stop stop' is is' actor t in_one in_other =
      same_actors_act top.design top.comp (plain_tree top contents file gives run) (keeps_rules top contents file gives run) (in_design top contents file gives run) run.cycles run.cycles
      (given_inputs (face top.comp) run.settings) (words_given d) height tall trace other stop stop' is is' [] top.comp refl actor t in_one in_other

  schedules_alike : (t height tall : ℕ) (trace other : Trace) (stop stop' : Option Text) → t < height + 1 → (is : IsRun d height trace stop) (is' : IsRun d tall other stop')
      → lines_with (is.acts []) trace t ≡ lines_with (is'.acts []) other t
  schedules_alike t height tall trace other stop stop' within is is' =
      let one = one_run top contents file gives run height tall trace other stop stop' is is' in
      lines_alike (schedule_line top.comp (is.acts [])) (schedule_line top.comp (is'.acts [])) trace other t (λ k before.
      line_same top.comp (is.acts []) (is'.acts []) k (trace k) (other k)
      (λ actor. acting_alike height tall trace other stop stop' is is' actor k (omega (arith, before, within)) (omega (arith, before, within, one.heights)))
      (λ port has. one.ports k port (omega (arith, before, within)) (output_is_port top.design top.comp port has)))

  two_conflicts : (o o' : Outcome) → StopsInConflict d o → StopsInConflict d o' → o ≡ o'
  two_conflicts o o' p q =
      let one = one_run top contents file gives run (suc p.row) (suc q.row) p.trace q.trace (Some p.port) (Some q.port) p.run q.run in
      let row : p.row ≡ q.row = omega (arith, one.heights) in
      let port = same_Some p.port q.port one.stops in
      let lines = schedules_alike p.row (suc p.row) (suc q.row) p.trace q.trace (Some p.port) (Some q.port) (omega arith) p.run q.run in
      p.outcome ∙ ap (λ (text : Text). conflict_after text p.row p.port) lines
      ∙ ap₂ (λ (t : ℕ) (name : Text). conflict_after (lines_with (q.run.acts []) q.trace t) t name) row port ∙ sym q.outcome

  not_both : (o o' : Outcome) → StopsInConflict d o → RunsThrough d o' → ⊥
  not_both o o' p q = let stops = (one_run top contents file gives run (suc p.row) run.cycles p.trace q.trace (Some p.port) None p.run q.run).stops in cc stops

  two_through : (o o' : Outcome) → RunsThrough d o → RunsThrough d o' → o ≡ o'
  two_through o o' p q =
      let lines = schedules_alike run.cycles run.cycles run.cycles p.trace q.trace None None (omega arith) p.run q.run in
      p.outcome ∙ ap done_with (ap₂ ◌++◌ lines (memories_alike top contents file gives run p.trace q.trace p.run q.run)) ∙ sym q.outcome

  pub schedules_once : (o o' : Outcome) → Schedules d o → Schedules d o' → o ≡ o'
  schedules_once o o' (inl p) (inl q) = two_conflicts o o' p q
  schedules_once o o' (inl p) (inr q) = absurd (not_both o o' p q)
  schedules_once o o' (inr p) (inl q) = absurd (not_both o' o q p)
  schedules_once o o' (inr p) (inr q) = two_through o o' p q
