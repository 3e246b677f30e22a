-- The laws of parts of runs, and of designs that are parts of others. This project's.
use Rattle.std.specs.Prelude.{◌≡◌, ℕ, ◌<◌, ◌≤◌, Bool, true, List, [], ◌++◌, Option, Some, None, Contains}
use Rattle.hw_names.specs.Name.{Text, Path, full_name}
use Rattle.hw_prims.specs.Row.{Row, Trace}
use Rattle.net_core.specs.Circuit.{HasConflict, Stops}
use Rattle.cal_ast.specs.Actors.{Actor}
use Rattle.cal_ast.specs.CalRun.{Activity, RunWith, StoppedRunWith, bare, cal_circuit}
use Rattle.cal_ast.specs.Instances.{component_at}
use Rattle.cal_ast.specs.Naming.{GroupNaming, Unreserved, HasNewNames, IsKnownCell}
use Rattle.cal_ast.specs.Plain.{HasPlainTree}
use Rattle.cal_ast.specs.Ports.{is_bare}
use Rattle.cal_ast.specs.Rules.{CalRules, KeepsComponent}
use Rattle.cal_ast.specs.Schedule.{Run, scheduled}
use Rattle.cal_ast.specs.Tree.{PortName, CellDef, Component, Design}
use Rattle.cal_ast.specs.Wired.{IsWired}
use Rattle.cal_ast.specs.Wires.{HasNoLoop}
use Rattle.cal_part.specs.RunBelow.{HasConflictAt, IsActivityBelow, IsRunBelow, IsWiredBelow, StopsBelow, row_below, rows_below, loads_below}
use Rattle.cal_part.specs.FrontOfDesign.{KeepsFront, IsWiredAfter}
use Rattle.cal_part.specs.HeldDesign.{IsHeldAt, holding}
use Rattle.cal_part.specs.SameLooks.{LooksTheSame, PassNoMore}
use Rattle.cal_part.specs.RenamedDesign.{IsRenaming, renamed, renamed_design}
use Rattle.cal_part.specs.SameHierarchy.{IsSameBelow, HaveSameRuns}
use Rattle.cal_part.specs.WireRules.{FallsInRank, KeepsAsWires}

-- ---- parts of runs

-- the first rows of a run are a run; where there are more, none of them has a Conflict
abbrev pub FirstRowsAreRuns : Type 0
FirstRowsAreRuns =
    (design : Design) (top : Component) (activity : Activity) (asked : ℕ) (inputs : Trace) (loads : Text → List ℕ) (height : ℕ) (trace : Trace) →
    RunWith design top activity asked inputs loads height trace → (rows : ℕ) → rows ≤ height →
    RunWith design top activity rows inputs loads rows trace × (rows < height → Stops (cal_circuit design top activity) rows trace None)

-- whatever acts, a run of a design is, below the path of an instance, a run of the instance's component
abbrev pub SubRuns : Type 0
SubRuns =
    (design : Design) (top c : Component) (path : Path) → component_at design top path ≡ Some c →
    (whole part : Activity) → IsActivityBelow design c path whole part →
    (asked : ℕ) (inputs : Trace) (loads : Text → List ℕ) (height : ℕ) (trace : Trace) → RunWith design top whole asked inputs loads height trace →
    IsRunBelow (cal_circuit design top whole) (cal_circuit design c part) path loads height trace

-- and how it stops there
abbrev pub SubRunsStop : Type 0
SubRunsStop =
    (design : Design) (top c : Component) (path : Path) → component_at design top path ≡ Some c →
    (whole part : Activity) → IsActivityBelow design c path whole part →
    (asked : ℕ) (inputs : Trace) (loads : Text → List ℕ) (height : ℕ) (trace : Trace) (stop : Option Text) →
    StoppedRunWith design top whole asked inputs loads height trace stop → StopsBelow (cal_circuit design c part) path height trace stop

-- each Conflict is one of an instance
abbrev pub ConflictsAreOfInstances : Type 0
ConflictsAreOfInstances =
    (design : Design) (top : Component) (activity : Activity) (t : ℕ) (row : Row) (port : Text) → HasConflict (cal_circuit design top activity) t row port →
    (path : Path) × HasConflictAt design top activity t row port path

-- and one of an instance at a path or below it is one of the component there
abbrev pub ConflictsBelow : Type 0
ConflictsBelow =
    (design : Design) (top c : Component) (path : Path) → component_at design top path ≡ Some c →
    (whole part : Activity) → IsActivityBelow design c path whole part →
    (t : ℕ) (row : Row) (port : Text) (below : Path) → HasConflictAt design top whole t row port (path ++ below) →
    (name : Text) × (port ≡ full_name path name) × HasConflict (cal_circuit design c part) t (row_below path row) name

-- where continuous assignments alone act, so they do below a path
abbrev pub BareIsBare : Type 0
BareIsBare = (design : Design) (c : Component) (path : Path) → IsActivityBelow design c path bare bare

-- under control too, where all is wires from the component on
abbrev pub ScheduledIsBare : Type 0
ScheduledIsBare =
    (design : Design) (c : Component) (path : Path) → IsWiredBelow design c → (acts : Path → Actor → ℕ → Bool) (is_done : Path → ℕ → Bool) →
    IsActivityBelow design c path (scheduled design acts is_done) bare

-- and where control is below the path too, the run there is one under control, however it stops
abbrev pub ControlledSubRuns : Type 0
ControlledSubRuns =
    (design : Design) (top c : Component) (path : Path) → component_at design top path ≡ Some c →
    (asked : ℕ) (inputs : Trace) (loads : Text → List ℕ) (height : ℕ) (trace : Trace) (stop : Option Text) →
    (run : Run design top asked inputs loads height trace stop) → (stop_below : Option Text) →
    Stops (cal_circuit design c (scheduled design (λ below. run.acts (path ++ below)) (λ below. run.is_done (path ++ below))))
    height (rows_below path trace) stop_below →
    Run design c height (rows_below path trace) (loads_below path loads) height (rows_below path trace) stop_below

-- ---- hierarchies

abbrev pub SameBelow : Type 0
SameBelow = (design other : Design) (c d : Component) → IsSameBelow design c other d → HaveSameRuns design c other d

-- ---- designs

-- a design keeps C1 to C12 where its components get other names
abbrev pub RenamedKeepsRules : Type 0
RenamedKeepsRules = (design : Design) (rename : Text → Text) → IsRenaming design rename → CalRules design → CalRules (renamed_design rename design)

abbrev pub RenamedIsWired : Type 0
RenamedIsWired = (design : Design) (rename : Text → Text) → IsRenaming design rename → IsWired design → IsWired (renamed_design rename design)

-- names of ports and cells stay
abbrev pub RenamedIsPlain : Type 0
RenamedIsPlain = (design : Design) (rename : Text → Text) → HasPlainTree design → HasPlainTree (renamed_design rename design)

abbrev pub RenamedIsSame : Type 0
RenamedIsSame =
    (design : Design) (rename : Text → Text) → IsRenaming design rename → CalRules design → (c : Component) → Contains design c →
    IsSameBelow design c (renamed_design rename design) (renamed rename c)

-- the components of a design that keeps the rules keep them, whatever comes after
abbrev pub FrontKeepsRules : Type 0
FrontKeepsRules = (front more : Design) → CalRules front → KeepsFront front more

-- and with further components that keep them the whole is wired
abbrev pub FrontIsWired : Type 0
FrontIsWired = (front more : Design) → IsWired front → IsWiredAfter front more → IsWired (front ++ more)

-- whatever comes after, below a component of a wired design all is wires
abbrev pub FrontIsWiredBelow : Type 0
FrontIsWiredBelow = (front more : Design) → IsWired front → (c : Component) → Contains front c → IsWiredBelow (front ++ more) c

-- C1 to C11 ask no more of a component of wires alone than at its signature, its cells and its assignments
abbrev pub WiresKeepRules : Type 0
WiresKeepRules =
    (design earlier : Design) (c : Component) → is_bare c ≡ true → c.groups ≡ [] → KeepsAsWires design earlier c → KeepsComponent Unreserved design earlier c

-- C12 holds of a component where some rank of its ports falls
abbrev pub RanksShowNoLoop : Type 0
RanksShowNoLoop = (design : Design) (c : Component) (rank : PortName → ℕ) → FallsInRank design c rank → HasNoLoop design c

-- a component keeps C1 to C11 in a design in which it looks the same, where its name is new there and cells that were known are known
abbrev pub LooksKeepRules : Type 0
LooksKeepRules =
    (first second earlier earlier' : Design) (c : Component) → LooksTheSame first second c →
    (HasNewNames earlier c → HasNewNames earlier' c) →
    ((cell : CellDef) → IsKnownCell first c cell → IsKnownCell second c cell) →
    (naming : GroupNaming) → KeepsComponent naming first earlier c → KeepsComponent naming second earlier' c

-- and C12, where what its cells are made of passes no more on
abbrev pub LooksKeepNoLoop : Type 0
LooksKeepNoLoop =
    (first second these : Design) → PassNoMore first second these → (c : Component) → Contains these c → HasNoLoop first c → HasNoLoop second c

-- ---- designs that are parts of others

-- what is seen of a run below the path of a held component is a run of the held design as it was
abbrev pub HeldRuns : Type 0
HeldRuns =
    (held more : Design) (rename : Text → Text) (top c : Component) (path : Path) (whole : Activity) → IsHeldAt held more rename top c path whole →
    (asked : ℕ) (inputs : Trace) (loads : Text → List ℕ) (height : ℕ) (trace : Trace) →
    RunWith (holding held rename more) top whole asked inputs loads height trace →
    IsRunBelow (cal_circuit (holding held rename more) top whole) (cal_circuit held c bare) path loads height trace

-- and a Conflict of an instance there is one of it
abbrev pub HeldConflicts : Type 0
HeldConflicts =
    (held more : Design) (rename : Text → Text) (top c : Component) (path : Path) (whole : Activity) → IsHeldAt held more rename top c path whole →
    (t : ℕ) (row : Row) (port : Text) (below : Path) → HasConflictAt (holding held rename more) top whole t row port (path ++ below) →
    (name : Text) × (port ≡ full_name path name) × HasConflict (cal_circuit held c bare) t (row_below path row) name
