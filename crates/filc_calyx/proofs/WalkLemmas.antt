-- Control walked beside the rows of a run.
use Rattle.std.proofs.Common.{◌≡◌, ℕ, ◌<◌, List, [], Bool, true, false, ap, ◌∙◌, sym}
use Rattle.std.specs.Prelude.{if◌then◌else◌, Option, Some, None}
use Rattle.hw_names.specs.Name.{Text}
use Rattle.hw_prims.specs.Row.{Trace}
use Rattle.cal_ast.specs.Actors.{Actor, group_of}
use Rattle.cal_ast.specs.Plan.{plan_of}
use Rattle.cal_ast.specs.Ports.{is_bare}
use Rattle.cal_ast.specs.Schedule.{is_group_done}
use Rattle.cal_ast.specs.Tree.{Component, Design}
use Rattle.cal_sched.specs.Walking.{GoesOver, goes}
use Rattle.cal_sched.specs.declared.walker.Walker.{Walker}
use Rattle.cal_walk.specs.Stages.{Progress, acts_now}
use Rattle.filc_calyx.proofs.ActingLemmas.{progress_same, step}
use Rattle.filc_calyx.specs.inside.Scheduling.{Walks, WalksOver, WalksTo, progress_before}

module _ (design : Design) (top : Component) (names ports : List Text) where
  -- it goes by the rows before
  pub walks_same : (trace trace' : Trace) (t : ℕ) → ((u : ℕ) → u < t → trace u ≡ trace' u) → (w : Option Walker) → Walks design top names ports trace t w → Walks design top names ports trace' t w
  walks_same trace trace' t same None bare = bare
  walks_same trace trace' t same (Some w) walks = record { is = walks.is; come = walks.come ∙ progress_same design top trace trace' t same }

  -- a bare top has none
  pub none_walks : (trace : Trace) (t : ℕ) → is_bare top ≡ true → WalksOver design top names ports trace t None
  none_walks trace t bare = record {
    next = bare;
    told = λ actor. ap (λ (b : Bool). if b then false else acts_now (plan_of top) (progress_before design top trace t) actor (goes (trace t)) (is_group_done [] (trace t) (group_of design top actor))) bare;
  }

  -- a walker goes over a row
  pub walks_on : (trace : Trace) (t : ℕ) (old new : Walker) → WalksTo design top names ports trace t old → GoesOver design top names ports (trace t) old new → WalksOver design top names ports trace t (Some new)
  walks_on trace t old new walks over =
      let acts = λ (actor : Actor) (x : Progress). acts_now (plan_of top) x actor (goes (trace t)) (is_group_done [] (trace t) (group_of design top actor)) in
      record {
        next = record { is = over.is; come = over.progress_is ∙ ap (step design top (trace t)) walks.come };
        told = λ k actor at.
            over.acting_is k actor at
            ∙ ap (λ (x : Progress). Some (acts actor x)) walks.come
            ∙ ap (λ (b : Bool). Some (if b then false else acts actor (progress_before design top trace t))) (sym walks.is.can.started);
      }
