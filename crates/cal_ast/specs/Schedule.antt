-- The run of a design with groups and control: what acts is what the schedule says of that same run. Calyx, ASPLOS 2021, with this project's rows.
use Rattle.std.specs.Prelude.{◌≡◌, ◌↔◌, ◌==◌, ◌&&◌, ℕ, ◌<◌, Bool, true, false, List, [], ◌++◌, flat_map, if◌then◌else◌, codes, Option, Some, None}
use Rattle.std.specs.List.{list_any}
use Rattle.hw_names.specs.Name.{Text, Path, full_name}
use Rattle.hw_prims.specs.Row.{Row, Trace}
use Rattle.net_core.specs.Guard.{guard_holds, source_value}
use Rattle.cal_ast.specs.Actors.{Actor, ActorGroup, actor_groups, group_of}
use Rattle.cal_ast.specs.CalRun.{Activity, look, StoppedRunWith}
use Rattle.cal_ast.specs.Instances.{component_at, port_name}
use Rattle.cal_ast.specs.Naming.{IsKnownPort}
use Rattle.cal_ast.specs.Plan.{plan_of}
use Rattle.cal_ast.specs.Ports.{is_bare}
use Rattle.cal_ast.specs.Spans.{View}
use Rattle.cal_ast.specs.Starts.{IsActing, IsDoneRow}
use Rattle.cal_ast.specs.Tree.{PortName, Assignment, DoneLine, GroupDef, Component, Design}

-- a done line reads 1 in the row at the path: its guard is true and its source is 1
abbrev pub reads_done : Path → Row → DoneLine → Bool
reads_done path row d = guard_holds (look path row) d.guard && (source_value (look path row) d.src == 1)

-- the done of a group reads 1, which has one done line where it isn't combinational
abbrev pub is_group_done : Path → Row → Option GroupDef → Bool
is_group_done path row None = false
is_group_done path row (Some g) = list_any (reads_done path row) g.dones

-- what the control of the instance at the path reads of a run
abbrev pub view_at : Design → Path → Component → ℕ → Trace → View
view_at design path c height trace =
    record {
      done = λ actor t. is_group_done path (trace t) (group_of design c actor);
      reads = λ p t. look path (trace t) p == 1;
      rows = height;
    }

abbrev pub go_at : Path → Trace → ℕ → Bool
go_at path trace t = trace t (full_name path (codes "go")) == 1

-- ---- what acts

abbrev pub sets_of_actor : (Actor → Bool) → ActorGroup → List Assignment
sets_of_actor acts a = if acts a.actor then a.group.sets else []

-- the continuous assignments act, and those of the actors that act at the path, each once however often it is enabled
abbrev pub scheduled : Design → (Path → Actor → ℕ → Bool) → (Path → ℕ → Bool) → Activity
scheduled design acts is_done =
    record {
      sets = λ path c t row. c.sets ++ flat_map (sets_of_actor (λ actor. acts path actor t)) (actor_groups design c);
      done = λ path c t. is_done path t;
    }

-- at the instance, which isn't bare, actors act exactly where the schedule says so, and done is 1 exactly in the done rows
pub record FollowsControl (design : Design) (acts : Actor → ℕ → Bool) (is_done : ℕ → Bool)
    (path : Path) (c : Component) (height : ℕ) (trace : Trace) : Type 0 where
  pub acting : (actor : Actor) (t : ℕ) → t < height →
      (acts actor t ≡ true) ↔ IsActing (view_at design path c height trace) (go_at path trace) (plan_of c) actor t
  pub done : (t : ℕ) → t < height → (is_done t ≡ true) ↔ IsDoneRow (view_at design path c height trace) (go_at path trace) (plan_of c) t

-- at the instance no actor acts, and control gives no done
pub record IsIdle (acts : Actor → ℕ → Bool) (is_done : ℕ → Bool) : Type 0 where
  pub acting : (actor : Actor) (t : ℕ) → acts actor t ≡ false
  pub done : (t : ℕ) → is_done t ≡ false

-- at each instance control is followed
pub record Follows (design : Design) (top : Component) (acts : Path → Actor → ℕ → Bool) (is_done : Path → ℕ → Bool)
    (height : ℕ) (trace : Trace) : Type 0 where
  pub control : (path : Path) (c : Component) → component_at design top path ≡ Some c → is_bare c ≡ false →
      FollowsControl design (acts path) (is_done path) path c height trace
  pub bare : (path : Path) (c : Component) → component_at design top path ≡ Some c → is_bare c ≡ true → IsIdle (acts path) (is_done path)

-- the run of the design from this top, with its stop
pub record Run (design : Design) (top : Component) (asked : ℕ) (inputs : Trace) (loads : Text → List ℕ)
    (height : ℕ) (trace : Trace) (stop : Option Text) : Type 0 where
  pub acts : Path → Actor → ℕ → Bool
  pub is_done : Path → ℕ → Bool
  pub follows : Follows design top acts is_done height trace
  pub run : StoppedRunWith design top (scheduled design acts is_done) asked inputs loads height trace stop

-- a port of the design below the top, by its full name: one that lines of an instance can name
pub record IsPortOf (design : Design) (top : Component) (name : Text) : Type 0 where
  pub path : Path
  pub c : Component
  pub at : component_at design top path ≡ Some c
  pub p : PortName
  pub known : IsKnownPort design c p
  pub named : port_name path p ≡ name
