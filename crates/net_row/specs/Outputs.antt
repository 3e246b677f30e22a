-- The outputs of cells, and what they keep after a row, as slots. This project's.
use Rattle.std.specs.Prelude.{◌≡◌, ℕ, zero, ◌+◌, ◌<◌, List, [], ◌++◌, length, map, Option, Some, slice_get, slice_index}
use Rattle.hw_prims.specs.Meaning.{output_values, next_state}
use Rattle.hw_prims.specs.Table.{outputs_of}
use Rattle.hw_prims.specs.declared.prim.Primitive.{Primitive}
use Rattle.hw_prims.specs.declared.prim.Primitive.TheVariants.{StdMemD1, StdMemD2}
use Rattle.net_sim.specs.Evaluated.{cell_inputs}
use Rattle.net_sim.specs.declared.cells.CellPorts.{CellPorts}
use Rattle.net_steps.specs.Steps.{Extends}
use Rattle.net_steps.specs.StepsValue.{StepsValue}
use Rattle.net_row.specs.Kinds.{IfKept, kind_after, kinds_of, kept_for, kept_in, state_of}
use Rattle.net_row.specs.Rows.{Frame, IsFrame, SlotRow, InEachRow, AreFitting}
use Rattle.net_row.specs.declared.kinds.Kind.{Kind}

-- the slot has an output of the cell
abbrev pub IsOutput : CellPorts → Kind → ℕ → ℕ → SlotRow → List ℕ → Type 0
IsOutput cell kind output slot row values =
    slice_index row.slots slot ≡ slice_index (output_values cell.prim (state_of row.slots row.others kind) (cell_inputs values cell)) output

-- steps were added that make an output of a cell, where the ports that have a slot fit their widths
pub record AddsOutput (old new : StepsValue) (ports : List (Option ℕ)) (cell : CellPorts) (kind : Kind) (output slot : ℕ) : Type 0 where
  pub extends : Extends old new
  pub made : (f : Frame) (k : ℕ) → IsFrame f → slice_get f.cells k ≡ Some cell → slice_get (kinds_of f.cells) k ≡ Some kind →
      output < length (outputs_of cell.prim) → AreFitting f old ports → InEachRow f new ports (IsOutput cell kind output slot)

-- the slots of the addresses that an output of a memory reads, from the number of the memory's first port
abbrev pub AreAddressesOf : Primitive → List (Option ℕ) → (port output : ℕ) → (slots : ℕ × ℕ) → Type 0
AreAddressesOf (StdMemD1 w size idx) ports port zero slots = slice_get ports port ≡ Some (Some slots.0)
AreAddressesOf (StdMemD2 w size0 size1 idx0 idx1) ports port zero slots =
    (slice_get ports port ≡ Some (Some slots.0)) × (slice_get ports (port + 1) ≡ Some (Some slots.1))
AreAddressesOf prim ports port output slots = Unit {0}

abbrev pub AreAddresses : List (Option ℕ) → CellPorts → ℕ → ℕ × ℕ → Type 0
AreAddresses ports cell output slots = AreAddressesOf cell.prim ports cell.first output slots

-- what is kept in these slots is the cell's state after the row
abbrev pub IsNextState : List ℕ → CellPorts → Kind → SlotRow → List ℕ → Type 0
IsNextState next cell kind row values =
    IfKept kind
    (state_of (map (slice_index row.slots) next) [] kind ≡ next_state cell.prim (state_of row.slots row.others kind) (cell_inputs values cell))

-- steps were added that make what is kept of one cell after a row, after what is kept of the cells before, where the ports that have a slot fit their widths
pub record AddsNextOf (old new : StepsValue) (ports : List (Option ℕ)) (cell : CellPorts) (before after : List ℕ) : Type 0 where
  pub extends : Extends old new
  pub added : List ℕ
  pub after_is : after ≡ before ++ added
  pub count : length added ≡ kept_for cell.prim
  pub made : (f : Frame) (k others : ℕ) → IsFrame f → slice_get f.cells k ≡ Some cell →
      slice_get (kinds_of f.cells) k ≡ Some (kind_after (length before) others cell.prim) → AreFitting f old ports →
      InEachRow f new ports (IsNextState after cell (kind_after (length before) others cell.prim))

-- steps were added that make what is kept after a row, where the ports that have a slot fit their widths
pub record AddsNext (old new : StepsValue) (ports : List (Option ℕ)) (cells : List CellPorts) (next : List ℕ) : Type 0 where
  pub extends : Extends old new
  pub count : length next ≡ kept_in cells
  pub made : (f : Frame) → IsFrame f → f.cells ≡ cells → AreFitting f old ports →
      (k : ℕ) (cell : CellPorts) (kind : Kind) → slice_get cells k ≡ Some cell → slice_get (kinds_of cells) k ≡ Some kind →
      InEachRow f new ports (IsNextState next cell kind)
