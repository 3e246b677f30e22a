-- The pairs of ports of which one reads the other within a row, as a list. This project's, for private functions alone.
use Rattle.std.specs.Prelude.{◌≡◌, ℕ, ◌+◌, ◌<◌, List, [], ◌∷◌, ◌++◌, length, map, All, Option, Some, None, if◌then◌else◌, slice_get, slice_index_or}
use Rattle.std.specs.List.{flat_map}
use Rattle.hw_names.specs.Name.{Text, dotted}
use Rattle.hw_prims.specs.Meaning.{is_through}
use Rattle.hw_prims.specs.Table.{prim_of, inputs_of, outputs_of, pin_names, name_at}
use Rattle.hw_prims.specs.declared.prim.Primitive.{Primitive}
use Rattle.net_core.specs.Graph.{set_ports}
use Rattle.net_core.specs.Netlist.{Netlist, CellLine, SetLine}
use Rattle.hw_graph.specs.declared.groups.Entry.{Entry}

-- a port, and another that it reads
pub record Reading : Type 0 where
  pub port : Text
  pub other : Text

abbrev pub reading : Text → Text → Reading
reading port other = record { port = port; other = other }

-- what the destination of an assignment reads by it
abbrev pub set_readings : SetLine → List Reading
set_readings a = map (reading a.dst) (set_ports a)

-- an input of a cell, where an output depends on it
abbrev pub input_readings : Text → Primitive → Text → Text → List Reading
input_readings cell prim output input = if is_through prim input output then reading (dotted cell output) (dotted cell input) ∷ [] else []

-- the inputs of a cell on which an output depends
abbrev pub output_readings : Text → Primitive → Text → List Reading
output_readings cell prim output = flat_map (input_readings cell prim output) (pin_names (inputs_of prim))

abbrev pub prim_readings : Text → Primitive → List Reading
prim_readings cell prim = flat_map (output_readings cell prim) (pin_names (outputs_of prim))

abbrev pub some_readings : Text → Option Primitive → List Reading
some_readings cell None = []
some_readings cell (Some prim) = prim_readings cell prim

-- what the outputs of a cell read
abbrev pub cell_readings : CellLine → List Reading
cell_readings c = some_readings c.name (prim_of c.prim c.params)

-- all pairs of a netlist
abbrev pub net_readings : Netlist → List Reading
net_readings n = flat_map set_readings n.sets ++ flat_map cell_readings n.cells

-- an entry's ports by their names
abbrev pub named_entry : List Text → Entry → Reading
named_entry names e = reading (slice_index_or names e.key []) (slice_index_or names e.value [])

-- entries of numbered ports that stand for these pairs
pub record AreEntriesOf (names : List Text) (readings : List Reading) (entries : List Entry) : Type 0 where
  pub in_range : All (λ (e : Entry). (e.key < length names) × (e.value < length names)) entries
  pub names_are : map (named_entry names) entries ≡ readings

-- the new entries stand for these pairs, after those of the old ones
abbrev pub AddReadings : List Text → List Reading → List Entry → List Entry → Type 0
AddReadings names more old new = (readings : List Reading) → AreEntriesOf names readings old → AreEntriesOf names (readings ++ more) new

-- the ports of a cell stand from this number on
pub record HasCellAt (names : List Text) (cell : Text) (prim : Primitive) (first : ℕ) : Type 0 where
  pub inputs : (j : ℕ) → j < length (inputs_of prim) → slice_get names (first + j) ≡ Some (dotted cell (name_at (inputs_of prim) j))
  pub outputs : (j : ℕ) → j < length (outputs_of prim) →
      slice_get names (first + length (inputs_of prim) + j) ≡ Some (dotted cell (name_at (outputs_of prim) j))
