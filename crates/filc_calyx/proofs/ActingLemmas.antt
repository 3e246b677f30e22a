-- Which actors of the top act in a row goes by the rows up to it; and a run of the design lets just those act.
use Rattle.std.proofs.Common.{◌≡◌, ◌↔◌, ℕ, zero, suc, ◌<◌, ◌≤◌, List, [], Bool, true, false, Option, refl, sym, ap, ap₂, ◌∙◌, arith}
use Rattle.std.specs.Prelude.{if◌then◌else◌}
use Rattle.hw_names.specs.Name.{Text}
use Rattle.hw_prims.specs.Row.{Row, Trace}
use Rattle.cal_ast.specs.Actors.{Actor, group_of}
use Rattle.cal_ast.specs.Plan.{plan_of}
use Rattle.cal_ast.specs.Ports.{is_bare}
use Rattle.cal_ast.specs.Schedule.{Run, go_at, is_group_done, view_at}
use Rattle.cal_ast.specs.Tree.{Component, Design}
use Rattle.cal_sched.specs.Walking.{goes, sight_of}
use Rattle.cal_walk.proofs.StageLemmas.{walking_is_the_schedule}
use Rattle.cal_walk.specs.Stages.{Progress, acts_now, next_progress, progress_at}
use Rattle.filc_calyx.specs.inside.Scheduling.{acting, progress_before}

-- tests that are true exactly where one thing holds are one
same_truth : (x y : Bool) (P : Type 0) → (x ≡ true) ↔ P → (y ≡ true) ↔ P → x ≡ y
same_truth true true P is is' = refl
same_truth false false P is is' = refl
same_truth true false P is is' = sym (is'.1 (is.0 refl))
same_truth false true P is is' = is.1 (is'.0 refl)

module _ (design : Design) (top : Component) where
  -- how far control has come after a row
  abbrev pub step : Row → Progress → Progress
  step row x = next_progress (plan_of top) (sight_of design top row) (goes row) x

  -- whether an actor acts in a row before which control has come so far
  abbrev pub acts_in : Actor → Progress → Row → Bool
  acts_in actor x row = acts_now (plan_of top) x actor (goes row) (is_group_done [] row (group_of design top actor))

  -- ---- rows that are the same

  pub progress_same : (trace trace' : Trace) (t : ℕ) → ((u : ℕ) → u < t → trace u ≡ trace' u) → progress_before design top trace t ≡ progress_before design top trace' t
  progress_same trace trace' zero same = refl
  progress_same trace trace' (suc t) same = ap₂ step (same t (omega arith)) (progress_same trace trace' t (λ u less. same u (omega (arith, less))))

  pub acting_same : (trace trace' : Trace) (t : ℕ) → ((u : ℕ) → u ≤ t → trace u ≡ trace' u) → (actor : Actor) → acting design top trace actor t ≡ acting design top trace' actor t
  acting_same trace trace' t same actor =
      ap₂ (λ (x : Progress) (row : Row). if is_bare top then false else acts_in actor x row)
      (progress_same trace trace' t (λ u less. same u (omega (arith, less)))) (same t (omega arith))

  -- ---- the run of the design

  -- it doesn't matter how many rows there are
  progress_seen : (height : ℕ) (trace : Trace) (t : ℕ) → progress_at (view_at design [] top height trace) (go_at [] trace) (plan_of top) t ≡ progress_before design top trace t
  progress_seen height trace zero = refl
  progress_seen height trace (suc t) = ap (step (trace t)) (progress_seen height trace t)

  pub run_acts : (asked : ℕ) (inputs : Trace) (loads : Text → List ℕ) (height : ℕ) (trace : Trace) (stop : Option Text) (r : Run design top asked inputs loads height trace stop)
      → (actor : Actor) (t : ℕ) → t < height → r.acts [] actor t ≡ acting design top trace actor t
  run_acts asked inputs loads height trace stop r actor t within = by (is_bare top) refl
    where
      by : (bare : Bool) → is_bare top ≡ bare → r.acts [] actor t ≡ (if bare then false else acts_in actor (progress_before design top trace t) (trace t))
      by true bare = (r.follows.bare [] top refl bare).acting actor t
      by false control =
          let v = view_at design [] top height trace in
          let go = go_at [] trace in
          same_truth (r.acts [] actor t) (acts_now (plan_of top) (progress_at v go (plan_of top) t) actor (go t) (v.done actor t)) _ ((r.follows.control [] top refl control).acting actor t within)
          ((walking_is_the_schedule v go (plan_of top) t within).0 actor)
          ∙ ap (λ (x : Progress). acts_in actor x (trace t)) (progress_seen height trace t)
