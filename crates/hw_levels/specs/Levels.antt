-- Levels: a number for each port, such that a port has a greater one than all that it reads within a row. Levelization is the field's (compiled-code
-- simulation); that a cell's ports keep the levels of its component, in place of what each of them reaches, is this project's.
use Rattle.std.specs.Prelude.{◌≡◌, ℕ, ◌<◌, List, true, false, slice_index, Contains}
use Rattle.hw_graph.specs.declared.groups.Entry.{Entry}
use Rattle.hw_levels.specs.declared.cells.CellPort.{CellPort}

-- an output and an input of one cell, of which the input has the lower level in the cell's component: the output may reach the input there
pub record MayReach (output input : CellPort) : Type 0 where
  pub cell : output.cell ≡ input.cell
  pub is_output : output.is_input ≡ false
  pub is_input : input.is_input ≡ true
  pub lower : input.level < output.level

-- the one port has a lower level than the other
abbrev pub IsBelow : List ℕ → ℕ → ℕ → Type 0
IsBelow levels port other = slice_index levels port < slice_index levels other

-- what is read is below what reads it: of the entries of a graph, and through the cells of components
pub record AreLevels (entries : List Entry) (ports : List CellPort) (levels : List ℕ) : Type 0 where
  pub wires : (entry : Entry) → Contains entries entry → IsBelow levels entry.value entry.key
  pub cells : (output input : CellPort) → Contains ports output → Contains ports input → MayReach output input → IsBelow levels input.node output.node
