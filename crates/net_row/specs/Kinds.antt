-- How each cell keeps its state: in values that are kept for it, one after another in the order of the cells, or by itself. This project's.
use Rattle.std.specs.Prelude.{◌≡◌, ℕ, ◌+◌, List, [], ◌∷◌, length, Option, None, Some, slice_get, slice_index}
use Rattle.hw_prims.specs.State.{State, Stateless as NoState, Register as RegisterState, Delay as DelayState, FastMult as FastMultState}
use Rattle.hw_prims.specs.declared.prim.Primitive.{Primitive}
use Rattle.hw_prims.specs.declared.prim.Primitive.TheVariants.{StdReg, StdMemD1, StdMemD2, StdMultPipe, FilDelay, FilFastMult, FilSeqMult}
use Rattle.net_sim.specs.declared.cells.CellPorts.{CellPorts}
use Rattle.net_steps.specs.declared.other.Other.{Other as OtherCell}
use Rattle.net_row.specs.declared.kinds.Kind.{Kind}
use Rattle.net_row.specs.declared.kinds.Kind.TheVariants.{Stateless, Register, Delay, FastMult, Other}

-- how many values are kept for a cell of the primitive
abbrev pub kept_for : Primitive → ℕ
kept_for (StdReg w) = 2
kept_for (FilDelay w) = 1
kept_for (FilFastMult w) = 2
kept_for prim = 0

-- 1 where it keeps its state by itself
abbrev pub others_for : Primitive → ℕ
others_for (StdMemD1 w size idx) = 1
others_for (StdMemD2 w size0 size1 idx0 idx1) = 1
others_for (StdMultPipe w) = 1
others_for (FilSeqMult w) = 1
others_for prim = 0

-- how it keeps its state, after so many kept values and so many cells that keep theirs by themselves
abbrev pub kind_after : (kept others : ℕ) → Primitive → Kind
kind_after kept others (StdReg w) = Register kept
kind_after kept others (FilDelay w) = Delay kept
kind_after kept others (FilFastMult w) = FastMult kept
kind_after kept others (StdMemD1 w size idx) = Other others
kind_after kept others (StdMemD2 w size0 size1 idx0 idx1) = Other others
kind_after kept others (StdMultPipe w) = Other others
kind_after kept others (FilSeqMult w) = Other others
kind_after kept others prim = Stateless

-- the same of cells in their order
abbrev pub kinds_after : (kept others : ℕ) → List CellPorts → List Kind
kinds_after kept others [] = []
kinds_after kept others (c ∷ cells) = kind_after kept others c.prim ∷ kinds_after (kept + kept_for c.prim) (others + others_for c.prim) cells

abbrev pub kinds_of : List CellPorts → List Kind
kinds_of cells = kinds_after 0 0 cells

-- how many values are kept for the cells, and how many of these keep their state by themselves
abbrev pub kept_in : List CellPorts → ℕ
kept_in [] = 0
kept_in (c ∷ cells) = kept_for c.prim + kept_in cells

abbrev pub others_in : List CellPorts → ℕ
others_in [] = 0
others_in (c ∷ cells) = others_for c.prim + others_in cells

-- one for each cell that keeps its state by itself, in the order of the cells: it is found by the cell's number, and is what it has to be of the cell
pub record AreOfOthers {A : Type 0} (Is : CellPorts → A → Type 0) (cells : List CellPorts) (items : List A) : Type 0 where
  pub all : length items ≡ others_in cells
  pub each : (k number : ℕ) (cell : CellPorts) → slice_get cells k ≡ Some cell → slice_get (kinds_of cells) k ≡ Some (Other number) →
      (item : A) × (slice_get items number ≡ Some item) × Is cell item

-- the state of a cell that keeps it by itself, if it is there
abbrev pub other_state : Option OtherCell → State
other_state None = NoState
other_state (Some other) = other.state.state

-- the state of a cell of this kind, by the kept values, which may have others after them, and by the cells that keep theirs by themselves
abbrev pub state_of : List ℕ → List OtherCell → Kind → State
state_of kept others Stateless = NoState
state_of kept others (Register k) = RegisterState (slice_index kept k) (slice_index kept (k + 1))
state_of kept others (Delay k) = DelayState (slice_index kept k)
state_of kept others (FastMult k) = FastMultState (slice_index kept k) (slice_index kept (k + 1))
state_of kept others (Other number) = other_state (slice_get others number)

-- by kinds: where kept values hold the state
abbrev pub IfKept : Kind → Type 0 → Type 0
IfKept (Other number) claim = Unit {0}
IfKept kind claim = claim
