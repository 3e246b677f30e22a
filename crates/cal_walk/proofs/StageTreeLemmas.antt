-- How far code has come with the control of an instance, row after row.
use Rattle.std.proofs.Common.{◌≡◌, ℕ, Bool, true, false, refl, sym, ap, ap₂, subst}
use Rattle.std.specs.Prelude.{if◌then◌else◌}
use Rattle.cal_ast.specs.Actors.{Actor}
use Rattle.cal_ast.specs.Plan.{Plan}
use Rattle.cal_ast.specs.Tree.{PortName}
use Rattle.cal_walk.specs.Left.{Sight, is_over, left, enables, tests}
use Rattle.cal_walk.specs.Marking.{AddsWanted}
use Rattle.cal_walk.specs.StageTrees.{progress_tree, StageIsWithin}
use Rattle.cal_walk.specs.Stages.{Progress, Waits, GoesOn, Ends, progress_of, next_progress, is_running_now, is_done_now, enabled_now, tested_now}
use Rattle.cal_walk.specs.Trees.{left_tree, LeftIsWithin}
use Rattle.cal_walk.specs.declared.left.Left.{Left}
use Rattle.cal_walk.specs.declared.marks.Marks.{Marks}
use Rattle.cal_walk.specs.declared.stage.Stage.{Stage}
use Rattle.cal_walk.specs.declared.stage.Stage.TheVariants as stages
use Rattle.cal_walk.proofs.MarkLemmas.{no_marks}

pub over_progress : (p : Plan) → is_over p ≡ true → Ends ≡ progress_of p
over_progress p over = sym (ap (λ b. if b then Ends else GoesOn p) over)

pub lasting_progress : (p : Plan) → is_over p ≡ false → GoesOn p ≡ progress_of p
lasting_progress p lasts = sym (ap (λ b. if b then Ends else GoesOn p) lasts)

module _ (f : ℕ → Actor) (h : ℕ → PortName) (stage : Stage) where
  abbrev at : Progress
  at = progress_tree f h stage

  pub waiting_at : stage ≡ stages.Waiting → at ≡ Waits
  waiting_at is = ap (progress_tree f h) is

  pub running_at : (l : Left) → stage ≡ stages.Running l → at ≡ GoesOn (left_tree f h l)
  running_at l is = ap (progress_tree f h) is

  pub finished_at : stage ≡ stages.Finished → at ≡ Ends
  finished_at is = ap (progress_tree f h) is

  -- ---- the next row

  module _ (plan : Plan) (s : Sight) (go : Bool) where
    pub starts : stage ≡ stages.Waiting → go ≡ true → progress_of (left s plan) ≡ next_progress plan s go at
    starts is on = sym (ap₂ (next_progress plan s) on (waiting_at is))

    pub waits : stage ≡ stages.Waiting → go ≡ false → Waits ≡ next_progress plan s go at
    waits is off = sym (ap₂ (next_progress plan s) off (waiting_at is))

    pub goes_on : (l : Left) → stage ≡ stages.Running l → progress_of (left s (left_tree f h l)) ≡ next_progress plan s go at
    goes_on l is = sym (ap (next_progress plan s go) (running_at l is))

    pub ends : stage ≡ stages.Finished → Waits ≡ next_progress plan s go at
    ends is = sym (ap (next_progress plan s go) (finished_at is))

  -- ---- marks

  module _ (plan : Plan) (before after : Marks) where
    abbrev Wanted : Progress → Type 0
    Wanted p = AddsWanted f (enabled_now plan p) (tested_now plan p) before after

    pub starting_wanted : stage ≡ stages.Waiting → AddsWanted f (enables plan) (tests plan) before after → Wanted at
    starting_wanted is wanted = subst Wanted (sym (waiting_at is)) wanted

    pub running_wanted : (l : Left) → stage ≡ stages.Running l → AddsWanted f (enables (left_tree f h l)) (tests (left_tree f h l)) before after → Wanted at
    running_wanted l is wanted = subst Wanted (sym (running_at l is)) wanted

  pub finished_wanted : (plan : Plan) (marks : Marks) → stage ≡ stages.Finished → AddsWanted f (enabled_now plan at) (tested_now plan at) marks marks
  finished_wanted plan marks is =
      let W : Progress → Type 0 = λ p. AddsWanted f (enabled_now plan p) (tested_now plan p) marks marks in
      subst W (sym (finished_at is)) (record { enabled_are = no_marks f marks.enabled.items; tested_are = no_marks f marks.tested.items })

pub running_within : (actors conditions : ℕ) (stage : Stage) (l : Left) → stage ≡ stages.Running l → StageIsWithin actors conditions stage → LeftIsWithin actors conditions l
running_within actors conditions stage l is within = let W : Stage → Type 0 = StageIsWithin actors conditions in subst W is within

-- ---- a stage that is another

module _ (f : ℕ → Actor) (h : ℕ → PortName) where
  pub not_running : (stage : Stage) → ((l : Left) → stage ≡ stages.Running l → ⊥) → false ≡ is_running_now (progress_tree f h stage)
  not_running stages.Waiting other = refl
  not_running (stages.Running l) other = absurd (other l refl)
  not_running stages.Finished other = refl

  pub not_finished : (stage : Stage) → (stage ≡ stages.Finished → ⊥) → false ≡ is_done_now (progress_tree f h stage)
  not_finished stages.Waiting other = refl
  not_finished (stages.Running l) other = refl
  not_finished stages.Finished other = absurd (other refl)
