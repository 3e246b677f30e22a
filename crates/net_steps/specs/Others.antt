-- Cells that keep their state by themselves, and what is read of them. This project's.
use Rattle.std.specs.Prelude.{◌≡◌, ℕ, ◌≤◌, List, length, All, slice_index, Option, Some, None}
use Rattle.hw_prims.specs.Cell.{CellValue}
use Rattle.hw_prims.specs.Meaning.{output_values}
use Rattle.hw_prims.specs.Table.{inputs_of, outputs_of, pin_widths}
use Rattle.net_steps.specs.Gathered.{gathered}
use Rattle.net_steps.specs.declared.other.Other.{Other}

-- the widths are those of the inputs of the cell's primitive, whose ports have 1 to 64 bits
pub record IsNarrow (cell : CellValue) (widths : List ℕ) : Type 0 where
  pub inputs : widths ≡ pin_widths (inputs_of cell.prim)
  pub count : length widths ≤ 4
  pub within : All (λ width. (1 ≤ width) × (width ≤ 64)) widths
  pub outputs : All (λ width. width ≤ 64) (pin_widths (outputs_of cell.prim))

-- an output of one of several cells, by the slots of its inputs; 0 where there is no such cell
abbrev pub output_of : List ℕ → Option Other → ℕ → List ℕ → ℕ
output_of slots None output places = 0
output_of slots (Some other) output places =
    slice_index (output_values other.state.prim other.state.state (gathered slots places other.widths.items)) output

-- each of several cells is narrow
abbrev pub AreNarrow : List Other → Type 0
AreNarrow others = All (λ (other : Other). IsNarrow other.state other.widths.items) others

-- the number of each one's outputs is told
abbrev pub AreCounted : List Other → Type 0
AreCounted others = All (λ (other : Other). other.outputs ≡ length (outputs_of other.state.prim)) others
