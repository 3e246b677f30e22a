-- The items of a cell do what its primitive does, cycle by cycle. This project's.
use Rattle.std.specs.Prelude.{◌≡◌, ℕ, List, [], ◌∷◌, map, flat_map, codes, Contains, Option, Some}
use Rattle.hw_names.specs.Name.{Text, dotted}
use Rattle.hw_prims.specs.Laws.{AreValuesOf, IsStateOf}
use Rattle.hw_prims.specs.Meaning.{opening_state, output_values, next_state}
use Rattle.hw_prims.specs.Row.{values_at}
use Rattle.hw_prims.specs.State.{State, Stateless, Register, Memory, MultPipe, Delay, FastMult, SeqMult}
use Rattle.hw_prims.specs.Table.{IsMade, Pin, inputs_of, outputs_of, pins_of, pin_names}
use Rattle.hw_prims.specs.declared.phase.Phase.{Phase}
use Rattle.hw_prims.specs.declared.phase.Phase.TheVariants.{Idle, First, Second, Third}
use Rattle.hw_prims.specs.declared.prim.Primitive.{Primitive}
use Rattle.ver_lang.specs.CellItems.{cell_items}
use Rattle.ver_lang.specs.Edge.{Update, all_updates}
use Rattle.ver_lang.specs.Legal.{driven_names}
use Rattle.ver_lang.specs.Run.{AreOpening, AreUpdated, item_signals}
use Rattle.ver_lang.specs.Size.{Widths}
use Rattle.ver_lang.specs.Tree.{Signal, Item, Assign}
use Rattle.ver_lang.specs.Value.{Cycle, assigned}

-- the cell's ports, and the registers and the memory of its own, have their widths
pub record IsDeclared (cell : Text) (prim : Primitive) (widths : Widths) : Type 0 where
  pub pins : (p : Pin) → Contains (pins_of prim) p → widths (dotted cell p.name) ≡ p.width
  pub own : (s : Signal) → Contains (flat_map item_signals (cell_items cell prim)) s → widths s.name ≡ s.width

abbrev pub phase_number : Phase → ℕ
phase_number Idle = 0
phase_number First = 1
phase_number Second = 2
phase_number Third = 3

-- the registers and the memory of the cell's own hold this state
abbrev pub IsHeld : Text → State → Cycle → Type 0
IsHeld cell Stateless now = Unit {0}
IsHeld cell (Register out done) now = (now.row (dotted cell (codes "$0")) ≡ out) × (now.row (dotted cell (codes "$1")) ≡ done)
IsHeld cell (Memory words done) now = (now.words (dotted cell (codes "$0")) ≡ words) × (now.row (dotted cell (codes "$1")) ≡ done)
IsHeld cell (MultPipe phase kept out) now =
    (now.row (dotted cell (codes "$0")) ≡ phase_number phase) × (now.row (dotted cell (codes "$1")) ≡ kept) × (now.row (dotted cell (codes "$2")) ≡ out)
IsHeld cell (Delay kept) now = now.row (dotted cell (codes "$0")) ≡ kept
IsHeld cell (FastMult first second) now = (now.row (dotted cell (codes "$0")) ≡ first) × (now.row (dotted cell (codes "$1")) ≡ second)
IsHeld cell (SeqMult phase kept) now = (now.row (dotted cell (codes "$0")) ≡ phase_number phase) × (now.row (dotted cell (codes "$1")) ≡ kept)

-- the values of the cell's inputs, in the table's order
abbrev pub inputs_in : Text → Primitive → Cycle → List ℕ
inputs_in cell prim now = values_at now.row (dotted cell) (pin_names (inputs_of prim))

-- a cycle in which a cell of the primitive has this state, and all has the width that it is declared with
pub record CellCycle (cell : Text) (prim : Primitive) (widths : Widths) (now : Cycle) (state : State) : Type 0 where
  pub made : IsMade prim
  pub declared : IsDeclared cell prim widths
  pub inputs_fit : AreValuesOf (inputs_of prim) (inputs_in cell prim now)
  pub state_fits : IsStateOf prim state
  pub held : IsHeld cell state now

-- what a continuous assignment gives to its target
abbrev pub given_values : Widths → Cycle → Item → List (Option ℕ)
given_values widths now (Assign x e) = assigned widths now (widths x) e ∷ []
given_values widths now item = []

-- each output is driven, in the table's order, and is given what the primitive computes
pub record ShowsOutputs (cell : Text) (prim : Primitive) (widths : Widths) (now : Cycle) (state : State) : Type 0 where
  pub driven : flat_map driven_names (cell_items cell prim) ≡ map (dotted cell) (pin_names (outputs_of prim))
  pub given : flat_map (given_values widths now) (cell_items cell prim) ≡ map Some (output_values prim state (inputs_in cell prim now))

abbrev pub CellsShowOutputs : Type 0
CellsShowOutputs =
    (cell : Text) (prim : Primitive) (widths : Widths) (now : Cycle) (state : State) → CellCycle cell prim widths now state →
    ShowsOutputs cell prim widths now state

-- at the edge the registers and the memory take the next state
pub record TakesNext (cell : Text) (prim : Primitive) (widths : Widths) (now : Cycle) (state : State) : Type 0 where
  pub due : List Update
  pub scheduled : all_updates widths now (cell_items cell prim) ≡ Some due
  pub holds : (next : Cycle) → AreUpdated (cell_items cell prim) due now next → IsHeld cell (next_state prim state (inputs_in cell prim now)) next

abbrev pub CellsTakeNext : Type 0
CellsTakeNext =
    (cell : Text) (prim : Primitive) (widths : Widths) (now : Cycle) (state : State) → CellCycle cell prim widths now state →
    TakesNext cell prim widths now state

-- they begin with the opening state, no word of which is loaded
abbrev pub CellsOpen : Type 0
CellsOpen = (cell : Text) (prim : Primitive) (now : Cycle) → AreOpening (cell_items cell prim) now → IsHeld cell (opening_state prim []) now
