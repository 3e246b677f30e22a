-- The shown memories of a netlist, which a run loads and prints, and their words. This project's.
use Rattle.std.specs.Prelude.{◌≡◌, ℕ, ◌<◌, Bool, List, length, filter, Some, slice_get, slice_set, bytes_eq, if◌then◌else◌}
use Rattle.hw_names.specs.Name.{Text}
use Rattle.hw_prims.specs.Cell.{CellValue}
use Rattle.hw_prims.specs.Memory.{word_count, word_width, padded_words, state_with_word}
use Rattle.hw_prims.specs.Table.{prim_of}
use Rattle.hw_prims.specs.declared.prim.Primitive.{Primitive}
use Rattle.net_core.specs.Netlist.{Netlist, CellLine}

-- the shown cells, in their order
abbrev pub is_shown : CellLine → Bool
is_shown c = c.shown

abbrev pub shown_cells : Netlist → List CellLine
shown_cells n = filter is_shown n.cells

-- the shown memory with this number is that of this cell, of this primitive
pub record IsShown (n : Netlist) (mem : ℕ) (cell : Text) (prim : Primitive) : Type 0 where
  pub line : CellLine
  pub at : slice_get (shown_cells n) mem ≡ Some line
  pub named : line.name ≡ cell
  pub made_of : prim_of line.prim line.params ≡ Some prim

-- the shown memory with this number has a word at this place
pub record HasWord (n : Netlist) (mem at : ℕ) : Type 0 where
  pub memory : mem < length (shown_cells n)
  pub within : (cell : Text) (prim : Primitive) → IsShown n mem cell prim → at < word_count prim

-- its words have this width
abbrev pub HasWordWidth : Netlist → ℕ → ℕ → Type 0
HasWordWidth n mem width = (cell : Text) (prim : Primitive) → IsShown n mem cell prim → width ≡ word_width prim

-- the words that are loaded into each cell, with one more put there
abbrev pub with_word : (Text → List ℕ) → Text → Primitive → (at word : ℕ) → Text → List ℕ
with_word loads cell prim at word other = if bytes_eq cell other then slice_set (padded_words (word_count prim) (loads cell)) at word else loads other

-- the numbers of the shown cells
pub record AreShown (n : Netlist) (shown : List ℕ) : Type 0 where
  pub all : length shown ≡ length (shown_cells n)
  pub each : (mem k : ℕ) (line : CellLine) → slice_get (shown_cells n) mem ≡ Some line → slice_get shown mem ≡ Some k → slice_get n.cells k ≡ Some line

-- one of the states has one more word
pub record HasOneWordMore (number at word : ℕ) (old new : List CellValue) : Type 0 where
  pub all : length new ≡ length old
  pub loaded : (s : CellValue) → slice_get old number ≡ Some s → slice_get new number ≡ Some (record { prim = s.prim; state = state_with_word s.state at word })
  pub others : (k : ℕ) → (k ≡ number → ⊥) → slice_get new k ≡ slice_get old k
