use Rattle.std.proofs.Common.{◌≡◌, ◌++◌, take}
use Rattle.std.specs.List.{flat_map}
use Rattle.net_core.specs.Netlist.{cell_of}
use Rattle.ver_print.specs.Cells.{cell_text}
use Rattle.ver_print.proofs.cells.put_cells.Given as goal

abbrev pub invariant-loop-cell : goal.invariant-loop-cell
invariant-loop-cell l = l.out.items ≡ l.initial.out.items ++ flat_map (λ c. cell_text (cell_of l.names c)) (take l.cell-index l.cells)
