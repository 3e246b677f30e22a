-- What a stimulus gives to the run of a netlist: the values of its inputs, row by row, and the words that are loaded into
-- its shown memories. This project's.
use Rattle.std.specs.Prelude.{◌≡◌, ◌<◌, ◌≤◌, All, ℕ, Bool, nat_le, List, [], ◌∷◌, ◌++◌, length, map, filter, drop, replicate, slice_get, slice_set}
use Rattle.std.specs.Prelude.{slice_index_or, bytes_eq, if◌then◌else◌, Some}
use Rattle.std.specs.List.Sorted.{IsNonDecreasingBy}
use Rattle.hw_bits.specs.Values.{widths_of}
use Rattle.hw_names.specs.Name.{Text}
use Rattle.hw_prims.specs.Memory.{word_count, word_width}
use Rattle.hw_prims.specs.declared.prim.Primitive.{Primitive}
use Rattle.net_core.specs.declared.stimulus.InputSet.{InputSet}
use Rattle.net_core.specs.declared.stimulus.MemLoad.{MemLoad}
use Rattle.hw_prims.specs.Row.{Trace}
use Rattle.hw_prims.specs.Table.{pin_names}
use Rattle.net_core.specs.Netlist.{Netlist, CellLine}
use Rattle.net_sim.specs.Shown.{shown_cells, IsShown}
use Rattle.net_sim.specs.Slots.{row_of}
use Rattle.stim_read.specs.CycleRun.{Setting, Load, setting_seen}

-- the values of the inputs after these settings, in order
abbrev pub with_settings : List Setting → List ℕ → List ℕ
with_settings [] values = values
with_settings (s ∷ settings) values = with_settings settings (slice_set values s.input s.value)

-- it is made in this row or an earlier one
abbrev pub is_made_by : ℕ → Setting → Bool
is_made_by row s = nat_le s.from row

-- the inputs of a netlist in a row: each is 0 until it is set, and keeps its value until it is set again
abbrev pub given_inputs : Netlist → List Setting → Trace
given_inputs n settings row =
    row_of (pin_names n.ins) (with_settings (filter (is_made_by row) settings) (replicate (length n.ins) 0))

-- the same of settings as the program holds them
abbrev pub with_sets : List InputSet → List ℕ → List ℕ
with_sets sets values = with_settings (map setting_seen sets) values

abbrev pub driven : Netlist → List InputSet → Trace
driven n sets = given_inputs n (map setting_seen sets)

-- each sets an input of these widths, to a value of its width
abbrev pub FitInputs : List ℕ → List InputSet → Type 0
FitInputs widths sets = All (λ (s : InputSet). slice_get widths s.input ≡ Some s.value.width) sets

-- they fit the inputs, and stand in the order of their rows
pub record AreSetsFor (widths : List ℕ) (sets : List InputSet) : Type 0 where
  pub fit : FitInputs widths sets
  pub in_order : IsNonDecreasingBy (λ (s : InputSet). s.from) sets

-- the name of a shown memory; these are counted in the order of the cells
abbrev pub memory_name : Netlist → ℕ → Text
memory_name n memory = slice_index_or (map (λ (c : CellLine). c.name) (shown_cells n)) memory []

-- these words in the place of the first ones
abbrev pub begun_with : List ℕ → List ℕ → List ℕ
begun_with words before = words ++ drop (length words) before

-- the words of cells after one more load
abbrev pub after_load : Netlist → Load → (Text → List ℕ) → Text → List ℕ
after_load n l before cell = if bytes_eq (memory_name n l.memory) cell then begun_with l.values (before cell) else before cell

-- the words of cells after these loads, in order
abbrev pub after_loads : Netlist → List Load → (Text → List ℕ) → Text → List ℕ
after_loads n [] before = before
after_loads n (l ∷ loads) before = after_loads n loads (after_load n l before)

-- a load is for a shown memory: it has no more words than the memory, and each has the memory's width
pub record FitsMemory (n : Netlist) (load : MemLoad) : Type 0 where
  pub memory : load.mem < length (shown_cells n)
  pub few : (cell : Text) (prim : Primitive) → IsShown n load.mem cell prim → length load.words.items ≤ word_count prim
  pub widths : (cell : Text) (prim : Primitive) → IsShown n load.mem cell prim → All (λ w. w ≡ word_width prim) (widths_of load.words.items)
