-- The slots of the inputs of the cells that keep their state by themselves. This project's.
use Rattle.std.specs.Prelude.{◌≡◌, ℕ, ◌+◌, ◌≤◌, List, length, take, Some, slice_get}
use Rattle.hw_prims.specs.Table.{inputs_of}
use Rattle.net_sim.specs.Evaluated.{cell_inputs}
use Rattle.net_sim.specs.declared.cells.CellPorts.{CellPorts}
use Rattle.net_row.specs.Kinds.{AreOfOthers}

-- the first are the slots of the cell's inputs
abbrev pub IsPlaces : List ℕ → CellPorts → List ℕ → Type 0
IsPlaces ports cell places = take (length (inputs_of cell.prim)) places ≡ cell_inputs ports cell

-- those of each, in the order of the cells
abbrev pub ArePlaces : List CellPorts → List ℕ → List (List ℕ) → Type 0
ArePlaces cells ports places = AreOfOthers (IsPlaces ports) cells places

-- each cell's inputs are among so many ports
abbrev pub HaveRoom : ℕ → List CellPorts → Type 0
HaveRoom count cells = (k : ℕ) (cell : CellPorts) → slice_get cells k ≡ Some cell → cell.first + length (inputs_of cell.prim) ≤ count
