-- A row of a netlist as slots: what is kept, then the inputs, then what the steps make. This project's.
use Rattle.std.specs.Prelude.{◌≡◌, ℕ, ◌+◌, ◌<◌, ◌^◌, List, length, map, Option, None, Some, slice_get, slice_index}
use Rattle.hw_prims.specs.Laws.{AreValuesOf, IsStateOf}
use Rattle.hw_prims.specs.State.{State}
use Rattle.hw_prims.specs.Table.{inputs_of, outputs_of, pin_widths}
use Rattle.hw_prims.specs.declared.prim.Primitive.{Primitive}
use Rattle.net_core.specs.Netlist.{Netlist}
use Rattle.net_core.specs.Rules.{IsValid}
use Rattle.net_sim.specs.Layout.{port_names, port_widths, AreCellPorts}
use Rattle.net_sim.specs.declared.cells.CellPorts.{CellPorts}
use Rattle.net_steps.specs.Steps.{IsRowOf}
use Rattle.net_steps.specs.StepsValue.{StepsValue}
use Rattle.net_steps.specs.declared.other.Other.{Other as OtherCell}
use Rattle.net_row.specs.Kinds.{state_of, kinds_of, kept_in}
use Rattle.net_row.specs.declared.kinds.Kind.TheVariants.{Other}

-- what all rows of a netlist stand on: the netlist and its cells
pub record Frame : Type 0 where
  pub net : Netlist
  pub cells : List CellPorts

pub record IsFrame (f : Frame) : Type 0 where
  pub valid : IsValid f.net
  pub listed : AreCellPorts f.net f.cells

-- a row: its slots, the inputs that it was given, and the cells that keep their state by themselves
pub record SlotRow : Type 0 where
  pub slots : List ℕ
  pub inputs : List ℕ
  pub others : List OtherCell

-- the cells' states before the edge that ends the row; the first slots are the kept values
abbrev pub states_in : Frame → SlotRow → List State
states_in f row = map (state_of row.slots row.others) (kinds_of f.cells)

-- a cell of this primitive that keeps its state by itself, with what is known of its pins
abbrev pub IsOtherOf : Primitive → Option OtherCell → Type 0
IsOtherOf prim None = ⊥
IsOtherOf prim (Some other) =
    (other.state.prim ≡ prim) × (other.widths.items ≡ pin_widths (inputs_of prim)) × (other.outputs ≡ length (outputs_of prim))

abbrev pub AreOthersOf : List CellPorts → List OtherCell → Type 0
AreOthersOf cells others =
    (k number : ℕ) (c : CellPorts) → slice_get cells k ≡ Some c → slice_get (kinds_of cells) k ≡ Some (Other number) →
    IsOtherOf c.prim (slice_get others number)

-- each cell's state is one of its primitive's
abbrev pub AreStatesOf : List CellPorts → List State → Type 0
AreStatesOf cells states =
    (k : ℕ) (c : CellPorts) (state : State) → slice_get cells k ≡ Some c → slice_get states k ≡ Some state → IsStateOf c.prim state

-- the slots are those of a row that these steps make, from inputs and states that fit their widths
pub record IsRowIn (f : Frame) (steps : StepsValue) (row : SlotRow) : Type 0 where
  pub made : IsRowOf steps row.others row.slots
  pub given : (k value : ℕ) → slice_get row.inputs k ≡ Some value → slice_index row.slots (kept_in f.cells + k) ≡ value
  pub inputs : AreValuesOf f.net.ins row.inputs
  pub states : AreStatesOf f.cells (states_in f row)
  pub others : AreOthersOf f.cells row.others

-- the ports that have a slot have the values in their slots
abbrev pub AreValuesAt : List (Option ℕ) → SlotRow → List ℕ → Type 0
AreValuesAt ports row values =
    (port slot : ℕ) → slice_get ports port ≡ Some (Some slot) → slice_get values port ≡ Some (slice_index row.slots slot)

-- the claim is true of each row that these steps make, and of values of the ports in it
abbrev pub InEachRow : Frame → StepsValue → List (Option ℕ) → (SlotRow → List ℕ → Type 0) → Type 0
InEachRow f steps ports Claim =
    (row : SlotRow) (values : List ℕ) → IsRowIn f steps row → length values ≡ length (port_names f.net) → AreValuesAt ports row values → Claim row values

-- in each row that these steps make the slot has a value of this width
abbrev pub FitsIn : Frame → StepsValue → (width slot : ℕ) → Type 0
FitsIn f steps width slot = (row : SlotRow) → IsRowIn f steps row → slice_index row.slots slot < 2 ^ width

-- the same of each port's slot and its width
abbrev pub AreFitting : Frame → StepsValue → List (Option ℕ) → Type 0
AreFitting f steps ports =
    (port slot width : ℕ) → slice_get ports port ≡ Some (Some slot) → slice_get (port_widths f.net) port ≡ Some width → FitsIn f steps width slot
