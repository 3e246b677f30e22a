use Rattle.std.proofs.Common.{◌≡◌, All, List, map, take}
use Rattle.hw_names.specs.Name.{Text}
use Rattle.net_core.specs.Netlist.{cell_of}
use Rattle.net_core.specs.Numbers.{CellHasNumbers}
use Rattle.net_guard.proofs.copy.copy_cells.Given as goal

abbrev pub invariant-loop-cell : goal.invariant-loop-cell
invariant-loop-cell l = record {
  same : (names : List Text) → map (cell_of names) l.copies.items ≡ map (cell_of names) (take l.cell-index l.cells);
  numbers : (names : List Text) → All (CellHasNumbers names) l.cells → All (CellHasNumbers names) l.copies.items;
}
