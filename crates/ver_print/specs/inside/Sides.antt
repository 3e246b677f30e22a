-- Which ports of a cell assignments may drive, in their order. This project's.
use Rattle.std.specs.Prelude.{Bool, true, false, List, ◌++◌, length, replicate}
use Rattle.hw_prims.specs.Table.{input_names, output_names}
use Rattle.net_core.specs.Netlist.{CellLine}

-- its inputs, and not its outputs
abbrev pub cell_sides : CellLine → List Bool
cell_sides c = replicate (length (input_names c.prim)) true ++ replicate (length (output_names c.prim)) false
