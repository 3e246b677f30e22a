-- What a cell keeps from one row to the next. This project's states of the published primitives.
use Rattle.std.specs.Prelude.{ℕ, List, []}
use Rattle.hw_prims.specs.declared.phase.Phase.{Phase}
use Rattle.hw_prims.specs.declared.phase.Phase.TheVariants.{Idle, Third}

pub data State : Type 0 where
  -- nothing
  Stateless : State
  -- a register: its value, and whether it was written at the last edge
  Register : (out done : ℕ) → State
  -- a memory: its words, and whether one was written at the last edge
  Memory : (words : List ℕ) (done : ℕ) → State
  -- std_mult_pipe: its phase, the product that it took, and the product that it shows
  MultPipe : (phase : Phase) (kept out : ℕ) → State
  -- fil_delay: the input of the row before
  Delay : (kept : ℕ) → State
  -- fil_fast_mult: the product of the row before, and that of the row before it
  FastMult : (first second : ℕ) → State
  -- fil_seq_mult: its phase, and the product that it took
  SeqMult : (phase : Phase) (kept : ℕ) → State

-- parts of a state
abbrev pub out_of : State → ℕ
out_of (Register out done) = out
out_of (MultPipe phase kept out) = out
out_of state = 0

abbrev pub done_of : State → ℕ
done_of (Register out done) = done
done_of (Memory words done) = done
done_of (MultPipe Third kept out) = 1
done_of state = 0

abbrev pub memory_words : State → List ℕ
memory_words (Memory words done) = words
memory_words state = []

abbrev pub phase_of : State → Phase
phase_of (MultPipe phase kept out) = phase
phase_of (SeqMult phase kept) = phase
phase_of state = Idle

abbrev pub kept_of : State → ℕ
kept_of (MultPipe phase kept out) = kept
kept_of (Delay kept) = kept
kept_of (SeqMult phase kept) = kept
kept_of state = 0

abbrev pub first_of : State → ℕ
first_of (FastMult first second) = first
first_of state = 0

abbrev pub second_of : State → ℕ
second_of (FastMult first second) = second
second_of state = 0
