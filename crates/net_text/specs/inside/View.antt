-- Lines and guards of the code as those of texts.
use Rattle.std.specs.Prelude.{List, [], ◌∷◌}
use Rattle.hw_names.specs.Name.{Text, text_of}
use Rattle.hw_names.specs.declared.names.NameId.{NameId}
use Rattle.net_core.specs.Guard.{GuardTrees, NoGuards, MoreGuards, guard_tree}
use Rattle.net_core.specs.Netlist.{Line, InLine, OutLine, WireLine, CellOf, SetOf, pin_of, cell_of, set_of}
use Rattle.net_core.specs.declared.net.Guard.{Guard}
use Rattle.net_text.specs.declared.lines.NetLine.{NetLine}
use Rattle.net_text.specs.declared.lines.NetLine.TheVariants as lines

-- each name's number replaced by its text
abbrev pub line_of : List Text → NetLine → Line
line_of names (lines.In p) = InLine (pin_of names p)
line_of names (lines.Out p) = OutLine (pin_of names p)
line_of names (lines.Wire p) = WireLine (pin_of names p)
line_of names (lines.Cell c) = CellOf (cell_of names c)
line_of names (lines.Set a) = SetOf (set_of names a)

-- the trees of guards
abbrev pub guards_of : List Text → List (Guard NameId) → GuardTrees Text
guards_of names [] = NoGuards
guards_of names (g ∷ gs) = MoreGuards (guard_tree (text_of names) g) (guards_of names gs)
