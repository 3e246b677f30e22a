-- A walker before a row and after it.
use Rattle.std.proofs.Common.{◌≡◌, ℕ, ◌<◌, Bool, false, List, [], length, map, Some, Vec, Global, sym, ap, ◌∙◌, subst, arith}
use Rattle.std.specs.Prelude.{slice_get}
use Rattle.std.proofs.lemmas.List.{length-replicate}
use Rattle.std.proofs.lemmas.Option.{get_or_from_slice_get, slice_get-get_or, slice_get_within}
use Rattle.hw_names.specs.Name.{Text}
use Rattle.hw_prims.specs.Row.{Row}
use Rattle.cal_ast.specs.Actors.{Actor, InvokeAt, actors_of, group_of}
use Rattle.cal_ast.specs.Plan.{Plan, plan_of}
use Rattle.cal_ast.specs.Schedule.{is_group_done}
use Rattle.cal_ast.specs.Tree.{PortName, Component, Design}
use Rattle.cal_walk.specs.Left.{Sight}
use Rattle.cal_walk.specs.Marking.{AddsWanted, HaveOwnMarks, KeepsSizes}
use Rattle.cal_walk.specs.StageTrees.{StageIsWithin, progress_tree}
use Rattle.cal_walk.specs.Stages.{Progress, acts_now, enabled_now, next_progress, tested_now}
use Rattle.cal_walk.specs.Trees.{IsSeen, IsWithin, plan_tree}
use Rattle.cal_walk.specs.declared.marks.Marks.{Marks}
use Rattle.cal_walk.specs.declared.seen.Seen.{Seen}
use Rattle.cal_walk.specs.declared.stage.Stage.{Stage}
use Rattle.cal_sched.proofs.ActingLemmas.{acts_as_marked}
use Rattle.cal_sched.proofs.SightLemmas.{apart, done_seen, numbered, reads_counted, sees}
use Rattle.cal_sched.specs.Walking.{ClearsMarks, GoesOver, IsWalkerOf, SeesRow, TellsActing, acts_by, actor_at, condition_at, goes, progress, runs_now, sight_of}
use Rattle.cal_sched.specs.declared.walker.Walker.{Walker}

-- ---- what the parts of a row give, whatever numbers mean

-- marks are set of what control wants
abbrev pub MarksWanted : Walker → Marks → Marks → Type 0
MarksWanted w cleared marks =
    (f : ℕ → Actor) (h : ℕ → PortName) → HaveOwnMarks f (length cleared.enabled.items)
    → AddsWanted f (enabled_now (plan_tree f h w.control.now.plan) (progress_tree f h w.stage)) (tested_now (plan_tree f h w.control.now.plan) (progress_tree f h w.stage)) cleared marks

-- whether control runs is told
abbrev pub TellsRunning : Walker → Bool → Bool → Type 0
TellsRunning w go runs = (f : ℕ → Actor) (h : ℕ → PortName) → runs ≡ runs_now (progress_tree f h w.stage) go

-- the stage is the next one
abbrev pub IsNextStage : Walker → Bool → Seen → Stage → Type 0
IsNextStage w go seen stage =
    (f : ℕ → Actor) (h : ℕ → PortName) (s : Sight) → IsSeen f h s seen
    → progress_tree f h stage ≡ next_progress (plan_tree f h w.control.now.plan) s go (progress_tree f h w.stage)

module _ (design : Design) (c : Component) (names ports : List Text) (row : Row) (w : Walker) (is : IsWalkerOf design c names ports w) (values : List ℕ)
    (same : values ≡ map row ports) where
  abbrev actor_of : ℕ → Actor
  actor_of = actor_at c

  abbrev port_of : ℕ → PortName
  port_of = condition_at names w.control.now.conditions.items

  -- the plan that numbers mean
  plan_means : plan_tree actor_of port_of w.control.now.plan ≡ plan_of c
  plan_means = is.can.control_is.plan_is actor_of port_of (numbered design c names ports w.control.now is.can)

  -- ---- sizes

  module _ (cleared : Marks) (clear : ClearsMarks w.marks cleared) where
    pub cleared_enabled : length cleared.enabled.items ≡ length (actors_of c)
    cleared_enabled = ap length clear.enabled ∙ length-replicate (length w.marks.enabled.items) false ∙ is.enabled_sized

    pub cleared_tested : length cleared.tested.items ≡ length (actors_of c)
    cleared_tested = ap length clear.tested ∙ length-replicate (length w.marks.tested.items) false ∙ is.tested_sized

  pub plan_within : (actors conditions : ℕ) → actors ≡ length (actors_of c) → conditions ≡ length w.control.now.conditions.items → IsWithin actors conditions w.control.now.plan
  plan_within actors conditions same_actors same_conditions =
      let P : ℕ → Type 0 = λ n. IsWithin n conditions w.control.now.plan in
      let Q : ℕ → Type 0 = λ n. IsWithin (length (actors_of c)) n w.control.now.plan in
      subst P (sym same_actors) (subst Q (sym same_conditions) is.can.control_is.within)

  pub stage_within : (actors conditions : ℕ) → actors ≡ length (actors_of c) → conditions ≡ length w.control.now.conditions.items → StageIsWithin actors conditions w.stage
  stage_within actors conditions same_actors same_conditions =
      let P : ℕ → Type 0 = λ n. StageIsWithin n conditions w.stage in
      let Q : ℕ → Type 0 = λ n. StageIsWithin (length (actors_of c)) n w.stage in
      subst P (sym same_actors) (subst Q (sym same_conditions) is.stage)

  -- ---- after the row

  module _ (go : Bool) (is_go : go ≡ goes row) (seen : Seen) (sees_row : SeesRow values w.watches.items w.conditions.items w.seen seen) (stage : Stage) (next : IsNextStage w go seen stage)
      (within : StageIsWithin (length seen.done.items) (length seen.reads.items) stage) where
    pub done_counted : length seen.done.items ≡ length (actors_of c)
    done_counted = sees_row.done_sized ∙ is.done_sized

    next_within : StageIsWithin (length (actors_of c)) (length w.control.now.conditions.items) stage
    next_within =
        let P : ℕ → Type 0 = λ n. StageIsWithin n (length w.control.now.conditions.items) stage in
        let Q : ℕ → Type 0 = λ n. StageIsWithin (length seen.done.items) n stage in
        subst P done_counted (subst Q (reads_counted design c names ports row w is values same seen sees_row) within)

    goes_on : progress_tree actor_of port_of stage ≡ next_progress (plan_of c) (sight_of design c row) (goes row) (progress c names w)
    goes_on =
        let s = sight_of design c row in
        let N : Plan → Bool → Progress = λ p b. next_progress p s b (progress c names w) in
        next actor_of port_of s (sees design c names ports row w is values same seen sees_row) ∙ ap (λ p. N p go) plan_means ∙ ap (N (plan_of c)) is_go

    module _ (cleared marks : Marks) (clear : ClearsMarks w.marks cleared) (sizes : KeepsSizes cleared marks) (wanted : MarksWanted w cleared marks) (runs : Bool) (running : TellsRunning w go runs)
        (acting : Vec Bool Global) (acting_sized : length acting.items ≡ length w.acting.items) (acts : TellsActing marks seen.done.items runs acting.items) where
      acts_in : (k : ℕ) (actor : Actor) → slice_get (actors_of c) k ≡ Some actor
          → slice_get acting.items k ≡ Some (acts_now (plan_of c) (progress c names w) actor (goes row) (is_group_done [] row (group_of design c actor)))
      acts_in k actor at =
          let inside = slice_get_within (actors_of c) k actor at in
          let here : k < length acting.items = omega (arith, inside, acting_sized, is.acting_sized) in
          let means : actor_of k ≡ actor = get_or_from_slice_get (actors_of c) k actor (InvokeAt 0) at in
          let enabled_within : k < length w.marks.enabled.items = omega (arith, inside, is.enabled_sized) in
          let tested_within : k < length w.marks.tested.items = omega (arith, inside, is.tested_sized) in
          let plan = plan_tree actor_of port_of w.control.now.plan in
          let p = progress c names w in
          let done : Bool = is_group_done [] row (group_of design c actor) in
          let all = wanted actor_of port_of (subst (HaveOwnMarks actor_of) (sym (cleared_enabled cleared clear)) (apart design c names ports w.control.now is.can)) in
          let one : acts_by marks seen.done.items runs k ≡ acts_now plan p actor go done =
          acts_as_marked actor_of plan p w.marks cleared marks clear all k actor go runs done seen.done.items enabled_within tested_within means (running actor_of port_of)
          (done_seen design c names ports row w is values same seen sees_row k actor at) in
          let A : Plan → Bool → Bool = λ q b. acts_now q p actor b done in
          slice_get-get_or acting.items k false here ∙ ap Some (acts k here ∙ one ∙ ap (λ q. A q go) plan_means ∙ ap (A (plan_of c)) is_go)

      pub goes_over : GoesOver design c names ports row w (record w { stage = stage; seen = seen; marks = marks; acting = acting })
      goes_over = record {
        is = record {
          can = is.can;
          watches = is.watches;
          conditions = is.conditions;
          conditions_within = is.conditions_within;
          go = is.go;
          done_sized = done_counted;
          reads_sized = reads_counted design c names ports row w is values same seen sees_row;
          enabled_sized = sizes.enabled_sized ∙ cleared_enabled cleared clear;
          tested_sized = sizes.tested_sized ∙ cleared_tested cleared clear;
          acting_sized = acting_sized ∙ is.acting_sized;
          stage = next_within;
        };
        progress_is = goes_on;
        acting_is = acts_in;
      }
