-- What memories keep in numbers of 64 bits, and how their words are addressed. This project's.
use Rattle.std.specs.Prelude.{◌≡◌, ℕ, ◌+◌, ◌-◌, ◌*◌, ◌^◌, ◌<◌, ◌≤◌, ◌&&◌, nat_lt, length, All, Option, Some, None, if◌then◌else◌}
use Rattle.hw_prims.specs.Cell.{CellValue}
use Rattle.hw_prims.specs.Meaning.{bit}
use Rattle.hw_prims.specs.Memory.{word_count, word_width}
use Rattle.hw_prims.specs.State.{State, Memory}
use Rattle.hw_prims.specs.declared.prim.Primitive.{Primitive}
use Rattle.hw_prims.specs.declared.prim.Primitive.TheVariants.{StdMemD1, StdMemD2}
use Rattle.hw_prims.specs.declared.prim.TheConstants.{MAX_WORDS}
use Rattle.net_steps.specs.declared.held.Storage.{Storage}
use Rattle.net_steps.specs.declared.held.Storage.TheVariants.{Words, Cell}
use Rattle.net_steps.specs.declared.words.MemoryWords.{MemoryWords}
use Rattle.net_steps.specs.declared.words.Grid.{Grid}

-- so many rows and columns, whose numbers have these widths; words of this width, of which the input with this number is written
pub record IsGrid (grid : Grid) (rows columns row_width column_width width input : ℕ) : Type 0 where
  pub rows_are : grid.rows ≡ rows
  pub columns_are : grid.columns ≡ columns
  pub row_bits : grid.row_mask ≡ 2 ^ row_width - 1
  pub column_bits : grid.column_mask ≡ 2 ^ column_width - 1
  pub word_bits : grid.word_mask ≡ 2 ^ width - 1
  pub input_number : grid.input ≡ input
  pub room : rows * columns ≤ MAX_WORDS
  pub wide : 1 ≤ width
  pub narrow : width ≤ 64

-- the memory's grid; the number of the only column of a memory with one address has no bits
abbrev pub HasGrid : Primitive → Grid → Type 0
HasGrid (StdMemD1 w size idx) grid = IsGrid grid size 1 idx 0 w 1
HasGrid (StdMemD2 w size0 size1 idx0 idx1) grid = IsGrid grid size0 size1 idx0 idx1 w 2
HasGrid prim grid = ⊥

-- the number of the word in this row and column; none out of range
abbrev pub grid_place : (rows columns row column : ℕ) → Option ℕ
grid_place rows columns row column = if nat_lt row rows && nat_lt column columns then Some (row * columns + column) else None

-- as many words as the memory has, each of its width
pub record AreWordsOf (prim : Primitive) (memory : MemoryWords) : Type 0 where
  pub prim_is : memory.prim ≡ prim
  pub grid_is : HasGrid prim memory.grid
  pub count : length memory.words.items ≡ word_count prim
  pub fit : All (λ word. word < 2 ^ word_width prim) memory.words.items

-- the memory's state
abbrev pub state_of_words : MemoryWords → State
state_of_words memory = Memory memory.words.items (bit memory.done)

-- the cell's primitive and its state
abbrev pub stored_cell : Storage → CellValue
stored_cell (Words memory) = record { prim = memory.prim; state = state_of_words memory }
stored_cell (Cell cell) = cell

-- a memory's words are those that it keeps
abbrev pub IsStorage : Storage → Type 0
IsStorage (Words memory) = AreWordsOf memory.prim memory
IsStorage (Cell cell) = Unit {0}
