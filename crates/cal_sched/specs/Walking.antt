-- The walk of a component's control beside a run, row by row. Calyx, ASPLOS 2021; the words are this project's.
use Rattle.std.specs.Prelude.{◌≡◌, ℕ, ◌<◌, ◌==◌, ◌&&◌, ◌||◌, Bool, true, false, not, List, [], length, map, replicate, codes, Some, Contains}
use Rattle.std.specs.Prelude.{slice_get, slice_index_or}
use Rattle.std.specs.Option.{option_map_or}
use Rattle.hw_names.specs.Name.{Text}
use Rattle.hw_prims.specs.Row.{Row}
use Rattle.cal_ast.specs.Actors.{Actor, InvokeAt, actors_of, group_of}
use Rattle.cal_ast.specs.CalRun.{look}
use Rattle.cal_ast.specs.Instances.{port_name}
use Rattle.cal_ast.specs.Naming.{IsKnownPort}
use Rattle.cal_ast.specs.Numbers.{ComponentHasNumbers}
use Rattle.cal_ast.specs.Plan.{plan_of}
use Rattle.cal_ast.specs.Ports.{is_bare}
use Rattle.cal_ast.specs.Rules.{CalRules}
use Rattle.cal_ast.specs.Schedule.{is_group_done}
use Rattle.cal_ast.specs.Tree.{PortName, Component, Design, component_tree, own, port_tree}
use Rattle.cal_ast.specs.declared.tree.CalPort.{CalPort}
use Rattle.cal_walk.specs.Left.{Sight}
use Rattle.cal_walk.specs.Planning.{IsControlOf}
use Rattle.cal_walk.specs.StageTrees.{StageIsWithin, progress_tree}
use Rattle.cal_walk.specs.Stages.{Progress, Waits, GoesOn, Ends, acts_now, next_progress}
use Rattle.cal_walk.specs.declared.marks.Marks.{Marks}
use Rattle.cal_walk.specs.declared.planning.Controlled.{Controlled}
use Rattle.cal_walk.specs.declared.seen.Seen.{Seen}
use Rattle.cal_sched.specs.Watching.{AreWatchesOf, AreWithin, is_done, named, top_port, value_at}
use Rattle.cal_sched.specs.declared.walker.Walker.{Walker}
use Rattle.cal_sched.specs.declared.watch.Watch.{Watch}

-- what the control of the top component sees of a row
abbrev pub sight_of : Design → Component → Row → Sight
sight_of design c row = record { done = λ actor. is_group_done [] row (group_of design c actor); reads = λ p. look [] row p == 1 }

-- its go is 1 in the row
abbrev pub goes : Row → Bool
goes row = row (codes "go") == 1

-- the actor with this number
abbrev pub actor_at : Component → ℕ → Actor
actor_at c k = slice_index_or (actors_of c) k (InvokeAt 0)

-- the port of the condition with this number
abbrev pub condition_at : List Text → List CalPort → ℕ → PortName
condition_at names conditions k = option_map_or (port_tree names) (slice_get conditions k) (own [])

-- a component of a design that keeps the rules, which control starts, its control, and ports among which are all that its lines can name
pub record CanWalk (design : Design) (c : Component) (names ports : List Text) (control : Controlled) : Type 0 where
  pub rules : CalRules design
  pub in_design : Contains design c
  pub started : is_bare c ≡ false
  pub numbers : ComponentHasNumbers names control.comp.now
  pub comp : component_tree names control.comp.now ≡ c
  pub control_is : IsControlOf names c control
  pub has_ports : (p : PortName) → IsKnownPort design c p → Contains ports (port_name [] p)

-- the walker is for this component, whose ports have these numbers
pub record IsWalkerOf (design : Design) (c : Component) (names ports : List Text) (w : Walker) : Type 0 where
  pub can : CanWalk design c names ports w.control.now
  pub watches : AreWatchesOf design c ports w.watches.items
  pub conditions : map (named ports) w.conditions.items ≡ map (top_port names) w.control.now.conditions.items
  pub conditions_within : AreWithin ports w.conditions.items
  pub go : slice_get ports w.go ≡ Some (codes "go")
  pub done_sized : length w.seen.done.items ≡ length (actors_of c)
  pub reads_sized : length w.seen.reads.items ≡ length w.control.now.conditions.items
  pub enabled_sized : length w.marks.enabled.items ≡ length (actors_of c)
  pub tested_sized : length w.marks.tested.items ≡ length (actors_of c)
  pub acting_sized : length w.acting.items ≡ length (actors_of c)
  pub stage : StageIsWithin (length (actors_of c)) (length w.control.now.conditions.items) w.stage

-- how far its control has come
abbrev pub progress : Component → List Text → Walker → Progress
progress c names w = progress_tree (actor_at c) (condition_at names w.control.now.conditions.items) w.stage

-- the walker has gone over a row, and tells which actors act in it
pub record GoesOver (design : Design) (c : Component) (names ports : List Text) (row : Row) (old new : Walker) : Type 0 where
  pub is : IsWalkerOf design c names ports new
  pub progress_is : progress c names new ≡ next_progress (plan_of c) (sight_of design c row) (goes row) (progress c names old)
  pub acting_is : (k : ℕ) (actor : Actor) → slice_get (actors_of c) k ≡ Some actor →
      slice_get new.acting.items k ≡ Some (acts_now (plan_of c) (progress c names old) actor (goes row) (is_group_done [] row (group_of design c actor)))

-- ---- one row

-- each mark tells whether its actor is done, where the ports have these values
abbrev pub TellsDone : List ℕ → List Watch → List Bool → Type 0
TellsDone values watches done = (k : ℕ) → k < length done → slice_index_or done k false ≡ is_done k values watches

-- the port with this number reads 1
abbrev pub is_one : List ℕ → ℕ → Bool
is_one values port = value_at values port == 1

-- what is seen of a row with these values: which actors are done, and which conditions read 1
pub record SeesRow (values : List ℕ) (watches : List Watch) (conditions : List ℕ) (old new : Seen) : Type 0 where
  pub done_sized : length new.done.items ≡ length old.done.items
  pub done : TellsDone values watches new.done.items
  pub reads : new.reads.items ≡ map (is_one values) conditions

-- no actor is marked any more
pub record ClearsMarks (old new : Marks) : Type 0 where
  pub enabled : new.enabled.items ≡ replicate (length old.enabled.items) false
  pub tested : new.tested.items ≡ replicate (length old.tested.items) false

-- control runs in a row with this go: it has come so far, or it starts there
abbrev pub runs_now : Progress → Bool → Bool
runs_now Waits go = go
runs_now (GoesOn p) go = true
runs_now Ends go = false

-- the actor with this number acts, by its marks, in a row in which control runs or not
abbrev pub acts_by : Marks → List Bool → Bool → ℕ → Bool
acts_by marks done runs k =
    runs && (slice_index_or marks.tested.items k false || (slice_index_or marks.enabled.items k false && not (slice_index_or done k false)))

-- each mark tells whether its actor acts
abbrev pub TellsActing : Marks → List Bool → Bool → List Bool → Type 0
TellsActing marks done runs acting = (k : ℕ) → k < length acting → slice_index_or acting k false ≡ acts_by marks done runs k
