use Rattle.std.proofs.Common.{◌≡◌, ◌++◌, take}
use Rattle.std.specs.List.{flat_map}
use Rattle.net_core.specs.Netlist.{cell_of, CellOf}
use Rattle.net_text.specs.Layout.{line_text, ended}
use Rattle.net_text.proofs.print.put_cells.Given as goal

abbrev pub invariant-loop-cell : goal.invariant-loop-cell
invariant-loop-cell l = l.out.items ≡ l.initial.out.items ++ flat_map (λ c. ended (line_text (CellOf (cell_of l.names c)))) (take l.cell-index l.cells)
