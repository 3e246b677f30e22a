-- What a stimulus may set in a netlist: its inputs, and the words of its shown memories. This project's.
use Rattle.std.specs.Prelude.{List, map, Option, Some, None}
use Rattle.net_core.specs.declared.stimulus.InputShape.{InputShape}
use Rattle.hw_names.specs.Name.{Text}
use Rattle.hw_prims.specs.Memory.{word_count, word_width}
use Rattle.hw_prims.specs.Table.{Pin, prim_of}
use Rattle.hw_prims.specs.declared.prim.Primitive.{Primitive}
use Rattle.net_core.specs.Netlist.{Netlist, CellLine}
use Rattle.net_core.specs.declared.stimulus.MemShape.{MemShape}
use Rattle.net_sim.specs.Shown.{shown_cells}

-- an input, as a stimulus may set it
abbrev pub input_shape : Pin → InputShape
input_shape pin = record { name = pin.name; width = pin.width }

-- the inputs of a netlist, in order
abbrev pub settable_inputs : Netlist → List InputShape
settable_inputs n = map input_shape n.ins

-- the shape of a cell's memory; what isn't made of a primitive has no words
abbrev pub shape_with : Text → Option Primitive → MemShape
shape_with name None = record { name = name; width = 0; size = 0 }
shape_with name (Some prim) = record { name = name; width = word_width prim; size = word_count prim }

abbrev pub memory_shape : CellLine → MemShape
memory_shape c = shape_with c.name (prim_of c.prim c.params)

-- the shown memories of a netlist, in the order of the cells
abbrev pub settable_memories : Netlist → List MemShape
settable_memories n = map memory_shape (shown_cells n)
