-- The run of a module, cycle by cycle. IEEE 1364-2005, clauses 6, 9 and 11; that a run is told by cycles of one clock is this project's.
use Rattle.std.specs.Prelude.{◌≡◌, ℕ, ◌+◌, ◌<◌, List, [], ◌∷◌, ◌++◌, bytes_eq, find, replicate, Contains, Some}
use Rattle.std.specs.List.{flat_map}
use Rattle.std.specs.Option.{option_map_or}
use Rattle.hw_bits.specs.Width.{low_bits}
use Rattle.hw_names.specs.Name.{Text}
use Rattle.hw_prims.specs.Row.{Row, Trace}
use Rattle.ver_lang.specs.Edge.{Update, all_updates, register_after, words_after}
use Rattle.ver_lang.specs.Size.{Widths}
use Rattle.ver_lang.specs.Tree.{Expr, Signal, Constant, Filling, Item, Wire, Register, Memory, Fill, Assign, Module}
use Rattle.ver_lang.specs.Value.{Cycle, assigned}

-- what an item declares that has bits
abbrev pub item_signals : Item → List Signal
item_signals (Wire s) = s ∷ []
item_signals (Register s c) = s ∷ []
item_signals (Memory s count) = s ∷ []
item_signals item = []

-- the clock is a scalar, of one bit (4.3)
abbrev pub clock_signal : Module → Signal
clock_signal m = record { name = m.clock; width = 1 }

abbrev pub signals : Module → List Signal
signals m = clock_signal m ∷ m.ins ++ m.outs ++ flat_map item_signals m.items

-- the declared width of a name; 0 where none is declared so
abbrev pub widths_of : Module → Widths
widths_of m x = option_map_or (λ (s : Signal). s.width) (find (λ (s : Signal). bytes_eq s.name x) (signals m)) 0

-- the value that a literal has in a register or a word of this width
abbrev pub constant_in : ℕ → Constant → ℕ
constant_in width c = low_bits width (low_bits c.width c.value)

-- what items that declare registers and memories hold in the first cycle: the values of the registers' declarations (6.2.1), and those that the memories
-- are filled with (9.9.1)
pub record AreOpening (items : List Item) (now : Cycle) : Type 0 where
  pub registers : (s : Signal) (c : Constant) → Contains items (Register s c) → now.row s.name ≡ constant_in s.width c
  pub memories : (s : Signal) (f : Filling) → Contains items (Memory s f.count) → Contains items (Fill f) → f.memory ≡ s.name →
      now.words s.name ≡ replicate f.count (constant_in s.width f.word)

-- in a cycle, before the edge that ends it: inputs have their values, and a net that is assigned continuously has the value of its expression (6.1)
pub record IsCycle (m : Module) (inputs : Row) (now : Cycle) : Type 0 where
  pub given : (s : Signal) → Contains m.ins s → now.row s.name ≡ inputs s.name
  pub assigns : (x : Text) (e : Expr) → Contains m.items (Assign x e) → assigned (widths_of m) now (widths_of m x) e ≡ Some (now.row x)

-- what they hold in the next cycle, after these updates
pub record AreUpdated (items : List Item) (due : List Update) (now next : Cycle) : Type 0 where
  pub registers : (s : Signal) (c : Constant) → Contains items (Register s c) → next.row s.name ≡ register_after due s.name (now.row s.name)
  pub memories : (s : Signal) (count : ℕ) → Contains items (Memory s count) → next.words s.name ≡ words_after due s.name (now.words s.name)

-- the rising edge that ends a cycle: all processes read what is held before it, and only then registers and memories take their values (9.2.2, 11.3)
pub record IsEdge (m : Module) (now next : Cycle) : Type 0 where
  pub due : List Update
  pub scheduled : all_updates (widths_of m) now m.items ≡ Some due
  pub updated : AreUpdated m.items due now next

-- the run for so many cycles with these inputs; the clock begins at 0, and rises at the end of each cycle
pub record IsModuleRun (m : Module) (count : ℕ) (inputs : Trace) (cycles : ℕ → Cycle) : Type 0 where
  pub opens : 0 < count → AreOpening m.items (cycles 0)
  pub is_cycle : (t : ℕ) → t < count → IsCycle m (inputs t) (cycles t)
  pub is_edge : (t : ℕ) → t + 1 < count → IsEdge m (cycles t) (cycles (t + 1))
