-- Control, seen below the path of an instance, reads there what it reads in the whole.
use mathlib.Core.Path.{fun_ext}
use Rattle.std.proofs.Common.{◌≡◌, ℕ, ◌==◌, ◌&&◌, ◌++◌, Bool, true, false, Option, Some, None, refl, sym, ap, ◌∙◌, subst}
use Rattle.std.specs.Prelude.{◌↔◌, codes}
use Rattle.std.specs.List.{list_any}
use Rattle.hw_names.specs.Name.{Text, Path}
use Rattle.hw_prims.specs.Row.{Row, Trace}
use Rattle.net_core.specs.Guard.{guard_holds, source_value}
use Rattle.cal_ast.specs.Actors.{Actor, group_of}
use Rattle.cal_ast.specs.CalRun.{look}
use Rattle.cal_ast.specs.Instances.{component_at}
use Rattle.cal_ast.specs.Plan.{plan_of}
use Rattle.cal_ast.specs.Schedule.{Follows, FollowsControl, go_at, is_group_done, scheduled, view_at}
use Rattle.cal_ast.specs.Spans.{View}
use Rattle.cal_ast.specs.Starts.{IsActing, IsDoneRow}
use Rattle.cal_ast.specs.Tree.{DoneLine, GroupDef, PortName, Component, Design}
use Rattle.cal_part.specs.RunBelow.{rows_below}
use Rattle.cal_part.specs.Laws.{ControlledSubRuns}
use Rattle.cal_part.proofs.BelowLemmas.{component_at-append, full_name-below, look_below, sub_runs}

-- whether a group is done, by the values of the ports that its component names
abbrev done_by : (PortName → ℕ) → Option GroupDef → Bool
done_by see None = false
done_by see (Some g) = list_any (λ (line : DoneLine). guard_holds see line.guard && (source_value see line.src == 1)) g.dones

is_done_by : (path : Path) (row : Row) (o : Option GroupDef) → is_group_done path row o ≡ done_by (look path row) o
is_done_by path row None = refl
is_done_by path row (Some g) = refl

group_below : (path below : Path) (row row' : Row) → look (path ++ below) row ≡ look below row' → (o : Option GroupDef) → is_group_done (path ++ below) row o ≡ is_group_done below row' o
group_below path below row row' same o = is_done_by (path ++ below) row o ∙ ap (λ (see : PortName → ℕ). done_by see o) same ∙ sym (is_done_by below row' o)

-- what control reads of the run
view_below : (design : Design) (path below : Path) (d : Component) (height : ℕ) (trace : Trace) → view_at design (path ++ below) d height trace ≡ view_at design below d height (rows_below path trace)
view_below design path below d height trace =
    ap (λ (done : Actor → ℕ → Bool). record { done = done; reads = (view_at design (path ++ below) d height trace).reads; rows = height })
    (fun_ext (λ (actor : Actor). fun_ext (λ (t : ℕ). group_below path below (trace t) (rows_below path trace t) (look_below path below (trace t)) (group_of design d actor))))
    ∙ ap (λ (reads : PortName → ℕ → Bool). record { done = (view_at design below d height (rows_below path trace)).done; reads = reads; rows = height })
    (fun_ext (λ (p : PortName). fun_ext (λ (t : ℕ). ap (λ (see : PortName → ℕ). see p == 1) (look_below path below (trace t)))))

go_below : (path below : Path) (trace : Trace) → go_at (path ++ below) trace ≡ go_at below (rows_below path trace)
go_below path below trace = fun_ext (λ (t : ℕ). ap (λ (name : Text). trace t name == 1) (full_name-below path below (codes "go")))

control_below : (design : Design) (acts : Actor → ℕ → Bool) (is_done : ℕ → Bool) (path below : Path) (d : Component) (height : ℕ) (trace : Trace)
    → FollowsControl design acts is_done (path ++ below) d height trace → FollowsControl design acts is_done below d height (rows_below path trace)
control_below design acts is_done path below d height trace follows =
    let view = view_below design path below d height trace in
    let go = go_below path below trace in
    record {
      acting = λ actor t less.
          subst (λ (g : ℕ → Bool). (acts actor t ≡ true) ↔ IsActing (view_at design below d height (rows_below path trace)) g (plan_of d) actor t) go
          (subst (λ (v : View). (acts actor t ≡ true) ↔ IsActing v (go_at (path ++ below) trace) (plan_of d) actor t) view (follows.acting actor t less));
      done = λ t less.
          subst (λ (g : ℕ → Bool). (is_done t ≡ true) ↔ IsDoneRow (view_at design below d height (rows_below path trace)) g (plan_of d) t) go
          (subst (λ (v : View). (is_done t ≡ true) ↔ IsDoneRow v (go_at (path ++ below) trace) (plan_of d) t) view (follows.done t less));
    }

follows_below : (design : Design) (top c : Component) (path : Path) → component_at design top path ≡ Some c → (acts : Path → Actor → ℕ → Bool) (is_done : Path → ℕ → Bool) (height : ℕ) (trace : Trace)
    → Follows design top acts is_done height trace → Follows design c (λ below. acts (path ++ below)) (λ below. is_done (path ++ below)) height (rows_below path trace)
follows_below design top c path at acts is_done height trace follows = record {
  control = λ below d is control.
      control_below design (acts (path ++ below)) (is_done (path ++ below)) path below d height trace (follows.control (path ++ below) d (component_at-append design top path below c at ∙ is) control);
  bare = λ below d is bare. follows.bare (path ++ below) d (component_at-append design top path below c at ∙ is) bare;
}

pub controlled_sub_runs : ControlledSubRuns
controlled_sub_runs design top c path at asked inputs loads height trace stop run stop_below stops =
    let acts = λ (below : Path). run.acts (path ++ below) in
    let is_done = λ (below : Path). run.is_done (path ++ below) in
    let below =
    sub_runs design top c path at (scheduled design run.acts run.is_done) (scheduled design acts is_done) (record { sets = λ q d is t row. refl; done = λ q d is control t. refl }) asked inputs loads height trace run.run.run in
    record {
      acts = acts;
      is_done = is_done;
      follows = follows_below design top c path at run.acts run.is_done height trace run.follows;
      run = record { run = below.run; stops = stops };
    }
