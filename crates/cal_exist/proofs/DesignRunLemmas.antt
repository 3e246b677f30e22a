-- A design has a run: its rows one after another, with its control walked forward beside them.
use Rattle.std.proofs.Common.{◌≡◌, ◌⊎◌, inl, inr, ℕ, zero, suc, ◌≤◌, ◌==◌, List, [], ◌∷◌, length, Bool, true, false, Option, Some, None, refl, sym, ap, ◌∙◌, subst}
use Rattle.std.specs.Prelude.{Contains, codes, if◌then◌else◌}
use Rattle.hw_names.specs.Name.{Text, Path, dotted, full_name}
use Rattle.hw_prims.specs.Meaning.{next_state, opening_state}
use Rattle.hw_prims.specs.Row.{Row, Trace, values_at}
use Rattle.hw_prims.specs.State.{State}
use Rattle.hw_prims.specs.Table.{inputs_of, pin_names}
use Rattle.hw_prims.specs.declared.prim.Primitive.{Primitive}
use Rattle.net_core.specs.Circuit.{Circuit, Drive, settled, IsRow, IsComputed, HasConflict, IsReported, states_before}
use Rattle.cal_ast.specs.Actors.{Actor, group_of}
use Rattle.cal_ast.specs.CalRun.{look, values_for, cal_circuit}
use Rattle.cal_ast.specs.Instances.{component_at}
use Rattle.cal_ast.specs.Keeping.{EndsAs, Outcome}
use Rattle.cal_ast.specs.Plain.{HasPlainTree}
use Rattle.cal_ast.specs.Plan.{plan_of}
use Rattle.cal_ast.specs.Ports.{is_bare}
use Rattle.cal_ast.specs.Rules.{CalRules}
use Rattle.cal_ast.specs.Schedule.{FollowsControl, IsIdle, Run, view_at, go_at, is_group_done, scheduled}
use Rattle.cal_ast.specs.Tree.{Component, Design}
use Rattle.cal_walk.proofs.StageLemmas.{walking_is_the_schedule}
use Rattle.cal_walk.specs.Left.{Sight}
use Rattle.cal_walk.specs.Stages.{Progress, Waits, next_progress, progress_at, acts_now, is_done_now}
use Rattle.net_runs.proofs.ConflictLemmas.{reported_or_not}
use Rattle.net_runs.proofs.OrderlyLemmas.{row_made, row_is}
use Rattle.net_runs.proofs.StopLemmas.{Ending, ending}
use Rattle.cal_exist.proofs.ActivityLemmas.{acts_for, done_for, acts_in, done_in, activity, circuit, Reads}
use Rattle.cal_exist.proofs.OrderLemmas.{ports, orderly}
use Rattle.cal_exist.specs.Laws.{DesignsHaveRuns}

-- ---- circuits that are one in a row

-- in this row the circuits have the same inputs and cells, and the sinks of the one are driven as those of the other
record IsWithin (c d : Circuit) (t : ℕ) (row : Row) : Type 0 where
  inputs : (port : Text) → c.Input port → d.Input port
  cells : (cell : Text) (prim : Primitive) → c.Cell cell prim → d.Cell cell prim
  sinks : (port : Text) (drive : Drive) → c.Sink port drive → (other : Drive) × d.Sink port other × (drive t row ≡ other t row)

conflict_within : (c d : Circuit) (t : ℕ) (row : Row) → IsWithin c d t row → (port : Text) → HasConflict c t row port → HasConflict d t row port
conflict_within c d t row within port conflict =
    let s = within.sinks port conflict.drive conflict.sink in
    record { drive = s.0; sink = s.1; clash = subst (λ (values : List ℕ). 2 ≤ length values) s.2 conflict.clash }

row_within : (c d : Circuit) (t : ℕ) (row : Row) → IsWithin c d t row → (inputs : Row) (states : Text → Primitive → State) → IsRow d t inputs states row → IsRow c t inputs states row
row_within c d t row within inputs states is = record {
  given = λ port has. is.given port (within.inputs port has);
  driven = λ port drive has. let s = within.sinks port drive has in is.driven port s.0 s.1 ∙ ap settled (sym s.2);
  computed = λ cell prim has. is.computed cell prim (within.cells cell prim has);
}

module _ (design : Design) (top : Component) (plain : HasPlainTree design) (rules : CalRules design) (in_design : Contains design top) (asked : ℕ) (inputs : Trace) (loads : Text → List ℕ) where
  -- the states of cells, and how far control has come, before a row
  record Before : Type 0 where
    states : Text → Primitive → State
    progress : Path → Progress

  abbrev row_from : ℕ → Before → Row
  row_from t b =
      row_made (circuit design top b.progress) (ports design top plain rules in_design b.progress) (Reads design top b.progress rules in_design) (orderly design top plain rules in_design b.progress) t (inputs t) b.states

  abbrev sight_in : Path → Component → Row → Sight
  sight_in path c row = record { done = λ actor. is_group_done path row (group_of design c actor); reads = λ p. look path row p == 1 }

  abbrev next_for : Path → Option Component → Row → Progress → Progress
  next_for path None row p = Waits
  next_for path (Some c) row p = next_progress (plan_of c) (sight_in path c row) (row (full_name path (codes "go")) == 1) p

  abbrev after : Row → Before → Before
  after row b =
      record {
        states = λ cell prim. next_state prim (b.states cell prim) (values_at row (dotted cell) (pin_names (inputs_of prim)));
        progress = λ path. next_for path (component_at design top path) row (b.progress path);
      }

  abbrev before : ℕ → Before
  before zero = record { states = λ cell prim. opening_state prim (loads cell); progress = λ path. Waits }
  before (suc t) = after (row_from t (before t)) (before t)

  trace : Trace
  trace t = row_from t (before t)

  states_are : (t : ℕ) (cell : Text) (prim : Primitive) → states_before t trace loads cell prim ≡ (before t).states cell prim
  unfolding trace
  states_are zero cell prim = refl
  states_are (suc t) cell prim = ap (λ (s : State). next_state prim s (values_at (trace t) (dotted cell) (pin_names (inputs_of prim)))) (states_are t cell prim)

  -- ---- what acts

  acts : Path → Actor → ℕ → Bool
  acts path actor t = acts_in design top (before t).progress (trace t) path actor t

  is_done : Path → ℕ → Bool
  is_done path t = done_in design top (before t).progress path t

  module _ (path : Path) (c : Component) (at : component_at design top path ≡ Some c) where
    module _ (control : is_bare c ≡ false) (height : ℕ) where
      progress_is : (t : ℕ) → progress_at (view_at design path c height trace) (go_at path trace) (plan_of c) t ≡ (before t).progress path
      unfolding trace
      progress_is zero = refl
      progress_is (suc t) =
          ap (next_progress (plan_of c) (sight_in path c (trace t)) (trace t (full_name path (codes "go")) == 1)) (progress_is t)
          ∙ sym (ap (λ (o : Option Component). next_for path o (trace t) ((before t).progress path)) at)

      acts_as : (actor : Actor) (t : ℕ) → acts path actor t ≡ acts_now (plan_of c) (progress_at (view_at design path c height trace) (go_at path trace) (plan_of c) t) actor (go_at path trace t) (is_group_done path (trace t) (group_of design c actor))
      unfolding acts
      acts_as actor t =
          ap (λ (o : Option Component). acts_for design path o ((before t).progress path) (trace t) actor) at
          ∙ ap (λ (b : Bool). if b then false else acts_now (plan_of c) ((before t).progress path) actor (trace t (full_name path (codes "go")) == 1) (is_group_done path (trace t) (group_of design c actor))) control
          ∙ ap (λ (p : Progress). acts_now (plan_of c) p actor (go_at path trace t) (is_group_done path (trace t) (group_of design c actor))) (sym (progress_is t))

      done_as : (t : ℕ) → is_done path t ≡ is_done_now (progress_at (view_at design path c height trace) (go_at path trace) (plan_of c) t)
      unfolding is_done
      done_as t =
          ap (λ (o : Option Component). done_for o ((before t).progress path)) at
          ∙ ap (λ (b : Bool). if b then false else is_done_now ((before t).progress path)) control
          ∙ ap is_done_now (sym (progress_is t))

      followed : FollowsControl design (acts path) (is_done path) path c height trace
      followed = record {
        acting = λ actor t less.
            let w = (walking_is_the_schedule (view_at design path c height trace) (go_at path trace) (plan_of c) t less).0 actor in
            (λ on. w.0 (sym (acts_as actor t) ∙ on), λ is. acts_as actor t ∙ w.1 is);
        done = λ t less.
            let w = (walking_is_the_schedule (view_at design path c height trace) (go_at path trace) (plan_of c) t less).1 in
            (λ on. w.0 (sym (done_as t) ∙ on), λ is. done_as t ∙ w.1 is);
      }

    idle : is_bare c ≡ true → IsIdle (acts path) (is_done path)
    unfolding acts is_done
    idle bare = record {
      acting = λ actor t.
          ap (λ (o : Option Component). acts_for design path o ((before t).progress path) (trace t) actor) at
          ∙ ap (λ (b : Bool). if b then false else acts_now (plan_of c) ((before t).progress path) actor (trace t (full_name path (codes "go")) == 1) (is_group_done path (trace t) (group_of design c actor))) bare;
      done = λ t.
          ap (λ (o : Option Component). done_for o ((before t).progress path)) at
          ∙ ap (λ (b : Bool). if b then false else is_done_now ((before t).progress path)) bare;
    }

  -- ---- the run

  abbrev whole : Circuit
  whole = cal_circuit design top (scheduled design acts is_done)

  abbrev circuit_at : ℕ → Circuit
  circuit_at t = circuit design top (before t).progress

  there : (t : ℕ) → IsWithin whole (circuit_at t) t (trace t)
  unfolding acts is_done
  there t = record {
    inputs = λ port has. has;
    cells = λ cell prim has. has;
    sinks = λ port drive sink. elim sink [
      | inl s ↦ (
        λ u row. values_for s.path port row ((activity design top (before t).progress).sets s.path s.c u row),
        inl (record { path = s.path; c = s.c; at = s.at; cell = s.cell; pin = s.pin; sink = s.sink; named = s.named; drives = refl }),
        ap (λ (d : Drive). d t (trace t)) s.drives,
      )
      | inr s ↦ (
        λ u row. (if done_in design top (before t).progress s.path u then 1 else 0) ∷ [],
        inr (record { path = s.path; c = s.c; at = s.at; control = s.control; named = s.named; drives = refl }),
        ap (λ (d : Drive). d t (trace t)) s.drives,
      )
    ];
  }

  back : (t : ℕ) → IsWithin (circuit_at t) whole t (trace t)
  unfolding acts is_done
  back t = record {
    inputs = λ port has. has;
    cells = λ cell prim has. has;
    sinks = λ port drive sink. elim sink [
      | inl s ↦ (
        λ u row. values_for s.path port row ((scheduled design acts is_done).sets s.path s.c u row),
        inl (record { path = s.path; c = s.c; at = s.at; cell = s.cell; pin = s.pin; sink = s.sink; named = s.named; drives = refl }),
        ap (λ (d : Drive). d t (trace t)) s.drives,
      )
      | inr s ↦ (
        λ u row. (if is_done s.path u then 1 else 0) ∷ [],
        inr (record { path = s.path; c = s.c; at = s.at; control = s.control; named = s.named; drives = refl }),
        ap (λ (d : Drive). d t (trace t)) s.drives,
      )
    ];
  }

  rows : (t : ℕ) → IsRow whole t (inputs t) (states_before t trace loads) (trace t)
  unfolding trace
  rows t =
      let b = (before t).progress in
      let r = row_within whole (circuit_at t) t (trace t) (there t) (inputs t) (before t).states
      (row_is (circuit design top b) (ports design top plain rules in_design b) (Reads design top b rules in_design) (orderly design top plain rules in_design b) t (inputs t) (before t).states) in
      record {
        given = r.given;
        driven = r.driven;
        computed = λ cell prim is. subst (λ (s : State). IsComputed (trace t) cell prim s) (sym (states_are t cell prim)) (r.computed cell prim is);
      }

  reported : (t : ℕ) → ((port : Text) × IsReported whole t (trace t) port) ⊎ ((port : Text) → HasConflict whole t (trace t) port → ⊥)
  reported t =
      let b = (before t).progress in
      elim (reported_or_not (circuit design top b) (ports design top plain rules in_design b) (Reads design top b rules in_design) (orderly design top plain rules in_design b) t (trace t)) [
        | inl found ↦ inl (
          found.0,
          record {
            has = conflict_within (circuit_at t) whole t (trace t) (back t) found.0 found.1.has;
            least = λ other conflict. found.1.least other (conflict_within whole (circuit_at t) t (trace t) (there t) other conflict);
          },
        )
        | inr none ↦ inr (λ port conflict. none port (conflict_within whole (circuit_at t) t (trace t) (there t) port conflict))
      ]

  ended : Ending whole trace asked inputs loads
  ended = ending whole trace reported asked inputs loads rows

  pub run_of : (a : Outcome) × EndsAs (Run design top) asked inputs loads a
  run_of = (
    record { height = ended.height; trace = trace; stop = ended.stop },
    record {
      acts = acts;
      is_done = is_done;
      follows = record { control = λ path c at control. followed path c at control ended.height; bare = λ path c at bare. idle path c at bare };
      run = record { run = ended.run; stops = ended.stops };
    },
  )

pub designs_have_runs : DesignsHaveRuns
designs_have_runs = run_of
