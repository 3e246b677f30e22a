-- How code makes the schedule of a run, row by row: a netlist runs, and the control of the design's top is walked beside it. This project's, for inner
-- functions alone.
use Rattle.std.specs.Prelude.{◌≡◌, ℕ, suc, ◌<◌, ◌++◌, Bool, true, false, List, [], Vec, codes, if◌then◌else◌, length, map, slice_get}
use Rattle.std.specs.Prelude.{Option, Some, None}
use Rattle.std.specs.Global.{Global}
use Rattle.hw_bits.specs.Values.{values_of, widths_of}
use Rattle.hw_bits.specs.declared.bits.Bits.{Bits}
use Rattle.hw_names.specs.Name.{Text}
use Rattle.hw_prims.specs.Row.{Row, Trace}
use Rattle.hw_prims.specs.Table.{pin_widths}
use Rattle.net_core.specs.Circuit.{states_before}
use Rattle.net_core.specs.NetRun.{HasPin}
use Rattle.net_core.specs.Netlist.{Netlist, netlist_of}
use Rattle.net_sim.specs.Layout.{name_of, port_names}
use Rattle.net_sim.specs.Sim.{input_row}
use Rattle.net_sim.specs.Standing.{StandsOn}
use Rattle.cal_ast.specs.Actors.{Actor, actors_of, group_of}
use Rattle.cal_ast.specs.Keeping.{NetRuns}
use Rattle.cal_ast.specs.Numbers.{ComponentHasNumbers}
use Rattle.cal_ast.specs.Plan.{plan_of}
use Rattle.cal_ast.specs.Ports.{is_bare}
use Rattle.cal_ast.specs.Schedule.{go_at, is_group_done, view_at}
use Rattle.cal_ast.specs.Tree.{Component, Design, component_tree}
use Rattle.cal_walk.specs.Planning.{IsControlOf}
use Rattle.cal_walk.specs.Stages.{Progress, acts_now, progress_at}
use Rattle.cal_walk.specs.declared.planning.Controlled.{Controlled}
use Rattle.cal_sched.specs.Walking.{CanWalk, IsWalkerOf, progress}
use Rattle.cal_sched.specs.declared.walker.Walker.{Walker}
use Rattle.cal_net.specs.Face.{face}
use Rattle.stim_read.specs.CycleRun.{Run}
use Rattle.filc_load.specs.Built.{IsReady}
use Rattle.filc_load.specs.Given.{after_loads, given_inputs}
use Rattle.filc_report.specs.Rows.{lines_text, memories_text, outputs_of_net}
use Rattle.filc_report.specs.Runs.{no_loads}
use Rattle.filc_report.specs.Streams.{IsStopped, RunsIntoConflict}
use Rattle.filc_calyx.specs.Scheduled.{actor_name, schedule_line}
use Rattle.filc_calyx.specs.declared.schedule.Clash.{Clash}
use Rattle.filc_calyx.specs.declared.scheduler.Scheduler.{Scheduler}

-- ---- what acts

-- how far control of the top has come before row t of these rows
abbrev pub progress_before : Design → Component → Trace → ℕ → Progress
progress_before design top trace t = progress_at (view_at design [] top 0 trace) (go_at [] trace) (plan_of top) t

-- the actors of the top that act in row t of these rows, where its control is walked forward; those of a bare top never act
abbrev pub acting : Design → Component → Trace → Actor → ℕ → Bool
acting design top trace actor t =
    if is_bare top then false
    else acts_now (plan_of top) (progress_before design top trace t) actor (go_at [] trace t) (is_group_done [] (trace t) (group_of design top actor))

-- the walker has come so far before row t
pub record WalksTo (design : Design) (top : Component) (names ports : List Text) (trace : Trace) (t : ℕ) (w : Walker) : Type 0 where
  pub is : IsWalkerOf design top names ports w
  pub come : progress top names w ≡ progress_before design top trace t

-- the same; a bare top has no walker
abbrev pub Walks : Design → Component → (names ports : List Text) → Trace → ℕ → Option Walker → Type 0
Walks design top names ports trace t None = is_bare top ≡ true
Walks design top names ports trace t (Some w) = WalksTo design top names ports trace t w

-- a walker tells which of these actors act
abbrev pub TellsActing : List Actor → (Actor → Bool) → Walker → Type 0
TellsActing actors acts w = (k : ℕ) (actor : Actor) → slice_get actors k ≡ Some actor → slice_get w.acting.items k ≡ Some (acts actor)

-- the same; without a walker none acts
abbrev pub Tells : List Actor → (Actor → Bool) → Option Walker → Type 0
Tells actors acts None = (actor : Actor) → acts actor ≡ false
Tells actors acts (Some w) = TellsActing actors acts w

-- a walker has gone over row t: it stands before the next one, and tells which actors act in this one
pub record WalksOver (design : Design) (top : Component) (names ports : List Text) (trace : Trace) (t : ℕ) (w : Option Walker) : Type 0 where
  pub next : Walks design top names ports trace (suc t) w
  pub told : Tells (actors_of top) (λ actor. acting design top trace actor t) w

-- ---- labels

-- what stands in a line for an actor that acts
abbrev pub label : Actor → Text
label actor = codes " " ++ actor_name actor

abbrev pub label_if : (Actor → Bool) → Actor → Text
label_if acts actor = if acts actor then label actor else []

abbrev pub label_texts : List (Vec ℕ Global) → List Text
label_texts labels = map (λ (l : Vec ℕ Global). l.items) labels

abbrev pub AreLabelsOf : List Actor → List (Vec ℕ Global) → Type 0
AreLabelsOf actors labels = label_texts labels ≡ map label actors

-- ---- rows

-- what is scheduled: a design with these names, from this top; the netlist that is run, its inputs in each row, and the words in its memories
pub record Subject : Type 0 where
  pub design : Design
  pub top : Component
  pub names : List Text
  pub net : Netlist
  pub inputs : Trace
  pub loads : Text → List ℕ

-- the same under a stimulus that gives this
abbrev pub subject_of : Design → Component → List Text → Netlist → Run → Subject
subject_of design top names n run =
    record {
      design = design;
      top = top;
      names = names;
      net = n;
      inputs = given_inputs n run.settings;
      loads = after_loads n run.loads no_loads;
    }

-- the line of a row of these rows
abbrev pub line_in : Subject → Trace → ℕ → Row → Text
line_in x trace = schedule_line x.top (acting x.design x.top trace)

-- the control of the top of a design with these names, and a netlist that shows what the top does
pub record CanSchedule (design : Design) (top : Component) (names : List Text) (n : Netlist) (control : Controlled) : Type 0 where
  pub outs : outputs_of_net n ≡ outputs_of_net (face top)
  pub numbers : ComponentHasNumbers names control.comp.now
  pub comp : component_tree names control.comp.now ≡ top
  pub control_is : IsControlOf names top control
  pub walks : is_bare top ≡ false → CanWalk design top names (port_names n) control

-- the scheduler runs the netlist, and has the label of each actor
pub record IsSchedulerOf (x : Subject) (s : Scheduler) : Type 0 where
  pub ready : IsReady s.built.now
  pub net : netlist_of s.built.now.net ≡ x.net
  pub outs : outputs_of_net x.net ≡ outputs_of_net (face x.top)
  pub labels : AreLabelsOf (actors_of x.top) s.labels.items

-- before row t: no row so far has a Conflict, and the text has their lines
pub record IsBefore (x : Subject) (t : ℕ) (s : Scheduler) : Type 0 where
  pub is : IsSchedulerOf x s
  pub goes_on : IsStopped s.sim.phase → ⊥
  pub trace : Trace
  pub stands : StandsOn x.net s.sim t x.inputs x.loads trace
  pub walks : Walks x.design x.top x.names (port_names x.net) trace t s.walker
  pub text : s.text.items ≡ lines_text (line_in x trace) trace t

-- row t has a Conflict, of which the port with this number is reported; the text has the lines of the rows before it
pub record IsStoppedAt (x : Subject) (t port : ℕ) (s : Scheduler) : Type 0 where
  pub is : IsSchedulerOf x s
  pub within : port < length (port_names x.net)
  pub trace : Trace
  pub runs : (asked : ℕ) → t < asked → RunsIntoConflict x.net asked x.inputs x.loads t (name_of x.net port) trace
  pub text : s.text.items ≡ lines_text (line_in x trace) trace t

-- what a row makes of the scheduler, by the port of its Conflict, if it has one
abbrev pub IsAfterRow : Subject → ℕ → Option ℕ → Scheduler → Type 0
IsAfterRow x t None s = IsBefore x (suc t) s
IsAfterRow x t (Some port) s = IsStoppedAt x t port s

-- the values of the netlist's inputs in row t
pub record AreInputsIn (x : Subject) (t : ℕ) (inputs : List Bits) : Type 0 where
  pub widths : pin_widths x.net.ins ≡ widths_of inputs
  pub values : (port : Text) → HasPin x.net.ins port → input_row x.net (values_of inputs) port ≡ x.inputs t port

-- ---- the whole

-- no row has a Conflict: the lines of all rows, and then those of the shown memories after the last edge
pub record HasWholeText (x : Subject) (rows : ℕ) (text : Text) : Type 0 where
  pub trace : Trace
  pub runs : NetRuns x.net rows x.inputs x.loads rows trace None
  pub text_is : text ≡ lines_text (line_in x trace) trace rows ++ memories_text x.net (states_before rows trace x.loads)

-- the last row has a Conflict: the lines of the rows before it
pub record HasTextTo (x : Subject) (rows : ℕ) (clash : Clash) (text : Text) : Type 0 where
  pub trace : Trace
  pub runs : NetRuns x.net rows x.inputs x.loads (suc clash.cycle) trace (Some clash.port)
  pub text_is : text ≡ lines_text (line_in x trace) trace clash.cycle

abbrev pub IsScheduleOf : Subject → ℕ → Option Clash → Text → Type 0
IsScheduleOf x rows None text = HasWholeText x rows text
IsScheduleOf x rows (Some clash) text = HasTextTo x rows clash text
