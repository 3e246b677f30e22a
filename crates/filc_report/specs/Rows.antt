-- The printed reports: rows of a run, shown memories. This project's.
use Rattle.std.specs.Prelude.{ℕ, zero, suc, Bool, List, [], ◌∷◌, ◌++◌, codes, decimal, flat_map, map, if◌then◌else◌, Option, None, Some}
use Rattle.hw_names.specs.Name.{Text}
use Rattle.hw_prims.specs.Row.{Row, Trace}
use Rattle.hw_prims.specs.State.{State, memory_words}
use Rattle.hw_prims.specs.Table.{Pin, prim_of}
use Rattle.hw_prims.specs.declared.prim.Primitive.{Primitive}
use Rattle.net_core.specs.Netlist.{Netlist, CellLine}

-- a space, the port, `=` and its value
abbrev pub port_text : Text → ℕ → Text
port_text port value = codes " " ++ port ++ codes "=" ++ decimal value

-- ports with their values, in order
abbrev pub ports_text : List Text → List ℕ → Text
ports_text (port ∷ ports) (value ∷ values) = port_text port value ++ ports_text ports values
ports_text ports values = []

-- a line: the cycle, then ports with their values
abbrev pub line_text : ℕ → List Text → List ℕ → Text
line_text cycle ports values = decimal cycle ++ ports_text ports values ++ 10 ∷ []

-- the cycle, then each of these ports
abbrev pub row_text : List Text → ℕ → Row → Text
row_text ports cycle row = decimal cycle ++ flat_map (λ port. port_text port (row port)) ports ++ 10 ∷ []

-- the lines of the first rows, where this is the line of a row, by its number and its values
abbrev pub lines_text : (ℕ → Row → Text) → Trace → ℕ → Text
lines_text line trace zero = []
lines_text line trace (suc t) = lines_text line trace t ++ line t (trace t)

-- the rows of the first cycles, each a line
abbrev pub rows_text : List Text → Trace → ℕ → Text
rows_text ports trace t = lines_text (row_text ports) trace t

-- a value where it is shown, else a dash
abbrev pub value_text : Bool → ℕ → Text
value_text shown value = if shown then decimal value else codes "-"

-- a space, the port, `=` and its value or a dash
abbrev pub marked_port : Text → ℕ → Bool → Text
marked_port port value shown = codes " " ++ port ++ codes "=" ++ value_text shown value

-- ports with their values, in order, and whether each is shown
abbrev pub marked_ports : List Text → List ℕ → List Bool → Text
marked_ports (port ∷ ports) (value ∷ values) (shown ∷ marks) = marked_port port value shown ++ marked_ports ports values marks
marked_ports ports values marks = []

-- a line: the cycle, then ports with their values where they are shown
abbrev pub marked_line : ℕ → List Text → List ℕ → List Bool → Text
marked_line cycle ports values marks = decimal cycle ++ marked_ports ports values marks ++ 10 ∷ []

abbrev pub outputs_of_net : Netlist → List Text
outputs_of_net n = map (λ (p : Pin). p.name) n.outs

-- a line: `mem`, the memory's name, then its words in order
abbrev pub memory_text : Text → List ℕ → Text
memory_text name words = codes "mem " ++ name ++ flat_map (λ word. codes " " ++ decimal word) words ++ 10 ∷ []

-- the words of a cell, where the states of cells are these
abbrev pub cell_words : (Text → Primitive → State) → Text → Option Primitive → List ℕ
cell_words states name None = []
cell_words states name (Some prim) = memory_words (states name prim)

-- the line of a shown cell; any other cell has none
abbrev pub shown_text : (Text → Primitive → State) → CellLine → Text
shown_text states c = if c.shown then memory_text c.name (cell_words states c.name (prim_of c.prim c.params)) else []

-- the shown memories in the order of the cells
abbrev pub memories_text : Netlist → (Text → Primitive → State) → Text
memories_text n states = flat_map (shown_text states) n.cells

-- a netlist or a design that keeps the rules
abbrev pub accepted_text : Text
accepted_text = codes "accepted" ++ 10 ∷ []
