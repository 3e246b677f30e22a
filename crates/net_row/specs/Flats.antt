-- What the simulation of a netlist by a program keeps. This project's.
use Rattle.std.specs.Prelude.{◌≡◌, ℕ, ◌+◌, ◌<◌, ◌≤◌, ◌^◌, List, [], length, map, All, Some, slice_get, slice_index}
use Rattle.hw_prims.specs.Meaning.{opening_state}
use Rattle.hw_prims.specs.Memory.{state_with_word}
use Rattle.hw_prims.specs.State.{State}
use Rattle.hw_prims.specs.Table.{inputs_of, outputs_of, pin_widths}
use Rattle.net_core.specs.Netlist.{Netlist, netlist_of}
use Rattle.net_core.specs.Table.{IsTableOf}
use Rattle.net_core.specs.declared.table.Table.{Table}
use Rattle.net_sim.specs.Layout.{port_widths}
use Rattle.net_sim.specs.OrderValue.{OrderValue}
use Rattle.net_sim.specs.Plan.{IsCompiled}
use Rattle.net_sim.specs.Shown.{AreShown}
use Rattle.net_sim.specs.Sim.{SimValue, IfEvaluated}
use Rattle.net_sim.specs.declared.cells.CellPorts.{CellPorts}
use Rattle.net_sim.specs.declared.plan.Giver.{Giver}
use Rattle.net_sim.specs.declared.plan.Source.{Source}
use Rattle.net_steps.specs.declared.other.Other.{Other as OtherCell}
use Rattle.net_row.specs.Kinds.{AreOfOthers, kinds_of, kept_in, state_of}
use Rattle.net_row.specs.Program.{IsProgram, frame, steps_of, steps_in}
use Rattle.net_row.specs.Programs.{AreFit, AreProgramsOf, IsSound, program_at}
use Rattle.net_row.specs.Rows.{IsRowIn, AreStatesOf}
use Rattle.net_row.specs.declared.flat.Flat.TheInside.{Inside}
use Rattle.net_row.specs.declared.kinds.Kind.{Kind}
use Rattle.net_row.specs.declared.kinds.Kind.TheVariants.{Other}
use Rattle.net_row.specs.declared.program.Program.{Program}

-- ---- the cells that keep their states by themselves

-- one of them
pub record IsOther (cell : CellPorts) (other : OtherCell) : Type 0 where
  pub prim : other.state.prim ≡ cell.prim
  pub widths : other.widths.items ≡ pin_widths (inputs_of cell.prim)
  pub outputs : other.outputs ≡ length (outputs_of cell.prim)

-- all of them, in the order of the cells
abbrev pub AreOthers : List CellPorts → List OtherCell → Type 0
AreOthers cells others = AreOfOthers IsOther cells others

-- no row was evaluated, and no word loaded
abbrev pub AreOpeningOthers : List OtherCell → Type 0
AreOpeningOthers others = All (λ (other : OtherCell). other.state.state ≡ opening_state other.state.prim []) others

-- the shown memory with this number is the one of the others with that number
pub record IsShownAs (kinds : List Kind) (shown : List ℕ) (mem number : ℕ) : Type 0 where
  pub cell : ℕ
  pub at : slice_get shown mem ≡ Some cell
  pub kind : slice_get kinds cell ≡ Some (Other number)

abbrev pub HasShown : List Kind → List ℕ → ℕ → Type 0
HasShown kinds shown mem = (number : ℕ) × IsShownAs kinds shown mem number

-- a cell with the pins that another has
pub record IsLike (old new : OtherCell) : Type 0 where
  pub prim : new.state.prim ≡ old.state.prim
  pub widths : new.widths ≡ old.widths
  pub outputs : new.outputs ≡ old.outputs

-- the cell with this number has a word put there, and the others are as they were
pub record IsLoadedOther (number place word : ℕ) (old new : List OtherCell) : Type 0 where
  pub all : length new ≡ length old
  pub each : (k : ℕ) (o n : OtherCell) → slice_get old k ≡ Some o → slice_get new k ≡ Some n → IsLike o n
  pub loaded : (o n : OtherCell) → slice_get old number ≡ Some o → slice_get new number ≡ Some n →
      n.state.state ≡ state_with_word o.state.state place word
  pub others : (k : ℕ) → (k ≡ number → ⊥) → slice_get new k ≡ slice_get old k

-- ---- slots

-- what is kept is in the first slots, and the inputs are in the next
pub record AreOpened (kept inputs slots : List ℕ) : Type 0 where
  pub kept_first : (k : ℕ) → k < length kept → slice_index slots k ≡ slice_index kept k
  pub inputs_next : (k : ℕ) → k < length inputs → slice_index slots (length kept + k) ≡ slice_index inputs k

-- each value fits the width of its port
abbrev pub FitWidths : List ℕ → List ℕ → Type 0
FitWidths widths values =
    (port value width : ℕ) → slice_get values port ≡ Some value → slice_get widths port ≡ Some width → value < 2 ^ width

-- ---- a simulation

abbrev pub states_from : List Kind → List ℕ → List OtherCell → List State
states_from kinds kept others = map (state_of kept others) kinds

abbrev pub values_from : Program → List ℕ → List ℕ
values_from program slots = map (slice_index slots) program.ports.items

-- the program that the last row went by
abbrev pub current_program : Inside → Program
current_program flat = program_at flat.programs flat.current

abbrev pub flat_value : Inside → SimValue
flat_value flat = record {
  net = flat.net.now;
  states = states_from flat.kinds.items flat.kept.items flat.others.items;
  values = values_from (current_program flat) flat.slots.items;
  phase = flat.phase;
}

-- the netlist was compiled to this program; its table, how its cells keep their states, and its shown cells are these
pub record IsBuilt (n : Netlist) (table : Table) (kinds : List Kind) (program : Program) (shown : List ℕ) : Type 0 where
  pub order : OrderValue
  pub cells : List CellPorts
  pub sources : List Source
  pub givers : List Giver
  pub compiled : IsCompiled n order cells sources givers
  pub table_is : IsTableOf n table
  pub kinds_are : kinds ≡ kinds_of cells
  pub shown_are : AreShown n shown
  pub program_is : IsProgram n cells program
  pub narrow : All (λ width. (1 ≤ width) × (width ≤ 64)) (port_widths n)

-- what a simulation keeps from row to row
pub record AreKept (n : Netlist) (cells : List CellPorts) (kinds : List Kind) (program : Program) (others : List OtherCell) (kept slots : List ℕ) : Type 0 where
  pub kept_all : length kept ≡ kept_in cells
  pub slots_all : (steps_of n cells program).base + length (steps_in program) ≤ length slots
  pub others_are : AreOthers cells others
  pub sound : IsSound (steps_of n cells program).base program others
  pub states : AreStatesOf cells (states_from kinds kept others)

-- the slots are those of a row, and the first are what was kept before it
pub record IsAfterRow (n : Netlist) (cells : List CellPorts) (program : Program) (others : List OtherCell) (kept slots : List ℕ) : Type 0 where
  pub inputs : List ℕ
  pub row : IsRowIn (frame n cells) (steps_of n cells program) (record { slots = slots; inputs = inputs; others = others })
  pub opened : (k : ℕ) → k < length kept → slice_index slots k ≡ slice_index kept k

pub record IsFlat (flat : Inside) : Type 0 where
  pub built : IsBuilt (netlist_of flat.net.now) flat.table.now flat.kinds.items (current_program flat) flat.shown.items
  pub are : AreKept (netlist_of flat.net.now) built.cells flat.kinds.items (current_program flat) flat.others.items flat.kept.items flat.slots.items
  pub values : FitWidths (port_widths (netlist_of flat.net.now)) (values_from (current_program flat) flat.slots.items)
  pub programs_are : AreProgramsOf (netlist_of flat.net.now) built.cells flat.programs
  pub fit : AreFit (kept_in built.cells + length (netlist_of flat.net.now).ins) flat.others.items flat.programs
  pub room : flat.programs.room ≡ length flat.slots.items
  pub evaluated : IfEvaluated flat.phase
      (IsAfterRow (netlist_of flat.net.now) built.cells (current_program flat) flat.others.items flat.kept.items flat.slots.items)
