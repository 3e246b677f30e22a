use Rattle.std.proofs.Common.{◌≡◌, ◌++◌, take}
use Rattle.std.specs.List.{flat_map}
use Rattle.net_core.specs.Netlist.{cell_of}
use Rattle.ver_print.specs.inside.Sides.{cell_sides}
use Rattle.ver_print.proofs.sides.put_cells_sides.Given as goal

abbrev pub invariant-loop-cell : goal.invariant-loop-cell
invariant-loop-cell l = l.sides.items ≡ l.initial.sides.items ++ flat_map (λ c. cell_sides (cell_of l.names c)) (take l.cell-index l.cells)
