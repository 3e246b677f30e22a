-- What is made of threads and their states shows trees, also under names that are added later. This project's.
use Rattle.std.specs.Prelude.{◌≡◌, ℕ, ◌+◌, Bool, List, [], ◌∷◌, ◌++◌, map, if◌then◌else◌, codes, slice_get, Option, Some, None}
use Rattle.std.specs.List.{AllZip}
use Rattle.hw_names.specs.Name.{Text}
use Rattle.hw_names.specs.declared.names.NameId.{NameId}
use Rattle.net_core.specs.Guard.{GuardTree, guard_option}
use Rattle.net_core.specs.declared.net.Guard.{Guard}
use Rattle.net_core.specs.declared.net.Src.TheVariants.{Lit}
use Rattle.cal_ast.specs.Numbers.{CellHasNumbers, ComponentHasNumbers, SetHasNumbers, WhenHasNumbers}
use Rattle.cal_ast.specs.Plan.{Plan, Plans}
use Rattle.cal_ast.specs.Tree.{PortName, port_of, port_tree, Assignment, CellDef, Component, assignment_tree, cell_tree, component_tree}
use Rattle.cal_ast.specs.declared.tree.Assign.{Assign}
use Rattle.cal_ast.specs.declared.tree.CalCell.{CalCell}
use Rattle.cal_ast.specs.declared.tree.CalComp.{CalComp}
use Rattle.cal_ast.specs.declared.tree.CalPort.{CalPort}
use Rattle.cal_token.specs.inside.Tokens.{Starting, Ended}
use Rattle.cal_lower.specs.inside.Parts.{none_if_over}
use Rattle.cal_lower.specs.inside.Pieces.{Piece, Wire, Register}
use Rattle.cal_lower.specs.inside.Shown.{Shows, ShowAll, ShowsGuards, ShowsName}
use Rattle.cal_state.specs.inside.Encoded.{over_state}
use Rattle.cal_state.specs.inside.States.{is_on, thread_cell, thread_enable, thread_name, width_of}
use Rattle.cal_state.specs.inside.Threads.{Thread, State, Place, NoState, IsIn, place_in, ended_state, first_state, inner_threads, lasting_states, plan_places, places}
use Rattle.cal_state.specs.inside.Threads.{places_after, places_at_once, places_in_turn, thread_of, threads, threads_at_once, threads_in_turn}
use Rattle.cal_state.specs.declared.component.Sets as component
use Rattle.cal_state.specs.declared.places.ControlPlaces as control
use Rattle.cal_state.specs.declared.places.Places as list
use Rattle.cal_state.specs.declared.places.Registers as registers
use Rattle.cal_state.specs.declared.threads.State as state
use Rattle.cal_state.specs.declared.threads.Texts as texts
use Rattle.cal_state.specs.declared.threads.Thread as thread

-- in this list the numbers are those of the texts
pub record AreTexts (names : List Text) (numbers : texts.Texts) : Type 0 where
  pub wire : ShowsName names (codes "std_wire") numbers.wire
  pub register : ShowsName names (codes "std_reg") numbers.register
  pub input : ShowsName names (codes "in") numbers.input
  pub enable : ShowsName names (codes "write_en") numbers.enable
  pub output : ShowsName names (codes "out") numbers.output
  pub over : ShowsName names (codes "c$over") numbers.over

-- ---- threads and states

pub record ShowsThread (names : List Text) (tree : Thread) (made : thread.Thread) : Type 0 where
  pub register : ShowsName names (thread_name tree) made.register
  pub width : made.width ≡ width_of tree

pub record ShowsState (names : List Text) (tree : State) (made : state.State) : Type 0 where
  pub thread : ShowsThread names tree.thread made.thread
  pub number : made.number ≡ tree.number

-- a guard that may be absent
abbrev pub ShowsWhen : List Text → Option (GuardTree PortName) → Option (Guard CalPort) → Type 0
ShowsWhen = Shows WhenHasNumbers (λ names when. guard_option (port_tree names) when)

-- the state comes next where the guard is true
abbrev pub next_set : State → Option (GuardTree PortName) → Assignment
next_set state when =
    record { dst = port_of (thread_name state.thread) (codes "in"); guard = when; src = Lit (width_of state.thread) state.number }

abbrev pub ShowsPlace : List Text → Place → Option state.State → Type 0
ShowsPlace names NoState None = Unit {0}
ShowsPlace names NoState (Some made) = ⊥
ShowsPlace names (IsIn token tree) None = ⊥
ShowsPlace names (IsIn token tree) (Some made) = ShowsState names tree made

-- the registers of these threads, that they are on, and their enables
pub record ShowsRegisters (names : List Text) (trees : List Thread) (made : registers.Registers) : Type 0 where
  pub texts : AreTexts names made.texts
  pub cells : ShowAll CellHasNumbers cell_tree names (map thread_cell trees) made.cells.items
  pub on : ShowsGuards names (map is_on trees) made.on.items
  pub enables : ShowAll SetHasNumbers assignment_tree names (map thread_enable trees) made.enables.items

-- ---- what parts of a plan make

-- threads, and the places of pieces
pub record Walk : Type 0 where
  pub threads : List Thread
  pub places : List Place

-- and then these
abbrev pub with_walk : Walk → Walk → Walk
with_walk first second = record { threads = first.threads ++ second.threads; places = first.places ++ second.places }

abbrev pub one_place : Place → Walk
one_place place = record { threads = []; places = place ∷ [] }

abbrev pub part_walk : Thread → (n k : ℕ) → Plan → Walk
part_walk thread n k p = record { threads = inner_threads k p; places = places thread n k p }

-- a part in turn, which may start later than the first of its thread, by its own token
abbrev pub start_places : Bool → Thread → (n k : ℕ) → List Place
start_places later thread n k = if later then place_in (Starting k) thread n ∷ [] else []

abbrev pub start_walk : Bool → Thread → (n k : ℕ) → Walk
start_walk later thread n k = record { threads = []; places = start_places later thread n k }

abbrev pub turn_walk : Bool → Thread → (n k : ℕ) → Plan → Walk
turn_walk later thread n k p =
    record { threads = inner_threads k p; places = none_if_over p (start_places later thread n k ++ places thread n k p) }

abbrev pub turns_walk : Bool → Thread → (n k : ℕ) → Plans → Walk
turns_walk later thread n k ps =
    record { threads = threads_in_turn k ps; places = if later then places_after thread n k ps else places_in_turn thread n k ps }

-- one of several at once, and all of them
abbrev pub branch_walk : (k : ℕ) → Plan → Walk
branch_walk k p = record {
  threads = none_if_over p (thread_of k p ∷ inner_threads k p);
  places = none_if_over p (place_in (Ended k) (thread_of k p) ended_state ∷ places (thread_of k p) first_state k p);
}

abbrev pub at_once_walk : (k : ℕ) → Plans → Walk
at_once_walk k ps = record { threads = threads_at_once k ps; places = places_at_once k ps }

-- what stands in the main thread
abbrev pub plan_walk : Plan → Walk
plan_walk plan = record { threads = inner_threads 0 plan; places = plan_places plan }

pub record ShowsPlaces (names : List Text) (walk : Walk) (made : list.Places) : Type 0 where
  pub registers : ShowsRegisters names walk.threads made.registers
  pub pieces : AllZip (ShowsPlace names) walk.places made.pieces.items

-- the threads of a plan, the places of its pieces, and the state in which it is over
pub record ShowsControl (names : List Text) (plan : Plan) (made : control.ControlPlaces) : Type 0 where
  pub over : ShowsState names (over_state plan) made.over
  pub places : ShowsPlaces names (record { threads = threads plan; places = plan_places plan }) made.places

-- ---- assignments

abbrev pub ShowSets : List Text → List Assignment → List Assign → Type 0
ShowSets = ShowAll SetHasNumbers assignment_tree

abbrev pub ShowComponents : List Text → List Component → List CalComp → Type 0
ShowComponents = ShowAll ComponentHasNumbers component_tree

-- those that are still to come, and those that were made of the ones before
pub record Encoding : Type 0 where
  pub left : List Assignment
  pub wires : List Assignment
  pub states : List Assignment

pub record ShowsEncoding (names : List Text) (tree : Encoding) (made : component.Sets) : Type 0 where
  pub left : ShowSets names tree.left made.left.items
  pub wires : ShowSets names tree.wires made.wires.items
  pub states : ShowSets names tree.states made.states.items

-- a wire has no state, and a register has one
abbrev pub HasKind : Place → Piece → Type 0
HasKind NoState p = p.kind ≡ Wire
HasKind (IsIn token state) p = p.kind ≡ Register

-- ---- cells

-- a wire in place of a register of one bit
abbrev pub wire_def : CellDef → CellDef
wire_def cell = record cell { made = codes "std_wire" }

abbrev pub wire_cell : NameId → CalCell → CalCell
wire_cell wire cell = record cell { made = wire }
