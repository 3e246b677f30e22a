-- The words of a netlist's memories, which limit what a run of it keeps. This project's.
use Rattle.std.specs.Prelude.{ℕ, sum_by, Option, Some, None}
use Rattle.hw_prims.specs.Memory.{word_count}
use Rattle.hw_prims.specs.Table.{prim_of}
use Rattle.hw_prims.specs.declared.prim.Primitive.{Primitive}
use Rattle.net_core.specs.Netlist.{Netlist, CellLine}

-- the words of a primitive, if it is a memory; none where there is no primitive
abbrev pub made_words : Option Primitive → ℕ
made_words None = 0
made_words (Some prim) = word_count prim

abbrev pub cell_words : CellLine → ℕ
cell_words c = made_words (prim_of c.prim c.params)

-- the words of all memories, shown or not
abbrev pub word_total : Netlist → ℕ
word_total n = sum_by cell_words n.cells
