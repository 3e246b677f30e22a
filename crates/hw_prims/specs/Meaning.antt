-- What each primitive computes: its opening state, its outputs, its next state, and which outputs follow which inputs within a row.
-- Calyx, ASPLOS 2021, and Filament, PLDI 2023, in this project's profile.
use Rattle.std.specs.Prelude.{ℕ, ◌*◌, ◌==◌, Bool, true, false, not, ◌&&◌, ◌||◌, nat_lt, nat_le, List, [], ◌∷◌, slice_index, codes, bytes_eq, bit_and, bit_or}
use Rattle.std.specs.Prelude.{bit_xor, if◌then◌else◌}
use Rattle.hw_bits.specs.Width.{low_bits, sum_bits, difference_bits, product_bits, inverted_bits, left_shifted_bits, right_shifted_bits, bits_between}
use Rattle.hw_bits.specs.Width.{joined_bits}
use Rattle.hw_prims.specs.Memory.{keeps_words, padded_words, place_of, word_at, words_with}
use Rattle.hw_prims.specs.Row.{Text}
use Rattle.hw_prims.specs.State.{State, Stateless, Register, Memory, MultPipe, Delay, FastMult}
use Rattle.hw_prims.specs.State.{SeqMult, out_of, done_of, memory_words, phase_of, kept_of, first_of}
use Rattle.hw_prims.specs.State.{second_of}
use Rattle.hw_prims.specs.declared.phase.Phase.{Phase}
use Rattle.hw_prims.specs.declared.phase.Phase.TheVariants.{Idle, First, Second, Third}
use Rattle.hw_prims.specs.declared.prim.Primitive.{Primitive}
use Rattle.hw_prims.specs.declared.prim.Primitive.TheVariants.{StdConst, StdWire, StdAdd, StdSub, StdAnd, StdOr, StdXor, StdNot, StdEq, StdNeq, StdLt, StdGt}
use Rattle.hw_prims.specs.declared.prim.Primitive.TheVariants.{StdLe, StdGe, StdLsh, StdRsh, StdSlice, StdPad, FilMux, FilSlice, FilConcat, StdReg, StdMemD1}
use Rattle.hw_prims.specs.declared.prim.Primitive.TheVariants.{StdMemD2, StdMultPipe, FilDelay, FilFastMult, FilSeqMult}

-- the primitives that keep nothing
unfoldable pub is_stateless : Primitive → Bool
is_stateless (StdReg w) = false
is_stateless (StdMultPipe w) = false
is_stateless (FilDelay w) = false
is_stateless (FilFastMult w) = false
is_stateless (FilSeqMult w) = false
is_stateless prim = not (keeps_words prim)

-- the state before row 0, where a memory's words are those loaded, then zeros
unfoldable pub opening_state : Primitive → List ℕ → State
opening_state (StdReg w) words = Register 0 0
opening_state (StdMemD1 w size idx) words = Memory (padded_words size words) 0
opening_state (StdMemD2 w size0 size1 idx0 idx1) words = Memory (padded_words (size0 * size1) words) 0
opening_state (StdMultPipe w) words = MultPipe Idle 0 0
opening_state (FilDelay w) words = Delay 0
opening_state (FilFastMult w) words = FastMult 0 0
opening_state (FilSeqMult w) words = SeqMult Idle 0
opening_state prim words = Stateless

abbrev pub bit : Bool → ℕ
bit on = if on then 1 else 0

-- what fil_seq_mult shows
abbrev pub seq_mult_out : Phase → ℕ → ℕ
seq_mult_out Second kept = kept
seq_mult_out phase kept = 0

-- the outputs, in the table's order, from the state and the inputs
unfoldable pub output_values : Primitive → State → List ℕ → List ℕ
output_values (StdConst w v) state ins = v ∷ []
output_values (StdWire w) state ins = slice_index ins 0 ∷ []
output_values (StdAdd w) state ins = sum_bits w (slice_index ins 0) (slice_index ins 1) ∷ []
output_values (StdSub w) state ins = difference_bits w (slice_index ins 0) (slice_index ins 1) ∷ []
output_values (StdAnd w) state ins = bit_and (slice_index ins 0) (slice_index ins 1) ∷ []
output_values (StdOr w) state ins = bit_or (slice_index ins 0) (slice_index ins 1) ∷ []
output_values (StdXor w) state ins = bit_xor (slice_index ins 0) (slice_index ins 1) ∷ []
output_values (StdNot w) state ins = inverted_bits w (slice_index ins 0) ∷ []
output_values (StdEq w) state ins = bit (slice_index ins 0 == slice_index ins 1) ∷ []
output_values (StdNeq w) state ins = bit (not (slice_index ins 0 == slice_index ins 1)) ∷ []
output_values (StdLt w) state ins = bit (nat_lt (slice_index ins 0) (slice_index ins 1)) ∷ []
output_values (StdGt w) state ins = bit (nat_lt (slice_index ins 1) (slice_index ins 0)) ∷ []
output_values (StdLe w) state ins = bit (nat_le (slice_index ins 0) (slice_index ins 1)) ∷ []
output_values (StdGe w) state ins = bit (nat_le (slice_index ins 1) (slice_index ins 0)) ∷ []
output_values (StdLsh w) state ins = left_shifted_bits w (slice_index ins 0) (slice_index ins 1) ∷ []
output_values (StdRsh w) state ins = right_shifted_bits w (slice_index ins 0) (slice_index ins 1) ∷ []
output_values (StdSlice i o) state ins = low_bits o (slice_index ins 0) ∷ []
output_values (StdPad i o) state ins = slice_index ins 0 ∷ []
output_values (FilMux w) state ins = (if slice_index ins 0 == 1 then slice_index ins 1 else slice_index ins 2) ∷ []
output_values (FilSlice w hi lo) state ins = bits_between (slice_index ins 0) hi lo ∷ []
output_values (FilConcat a b) state ins = joined_bits b (slice_index ins 0) (slice_index ins 1) ∷ []
output_values (StdReg w) state ins = out_of state ∷ done_of state ∷ []
output_values (StdMemD1 w size idx) state ins = word_at (memory_words state) (place_of (StdMemD1 w size idx) ins) ∷ done_of state ∷ []
output_values (StdMemD2 w size0 size1 idx0 idx1) state ins =
    word_at (memory_words state) (place_of (StdMemD2 w size0 size1 idx0 idx1) ins) ∷ done_of state ∷ []
output_values (StdMultPipe w) state ins = out_of state ∷ done_of state ∷ []
output_values (FilDelay w) state ins = kept_of state ∷ []
output_values (FilFastMult w) state ins = second_of state ∷ []
output_values (FilSeqMult w) state ins = seq_mult_out (phase_of state) (kept_of state) ∷ []

-- the edge of std_mult_pipe: without go it gives up
abbrev pub next_mult_pipe : Phase → (kept out product : ℕ) → (go : Bool) → State
next_mult_pipe Idle kept out product true = MultPipe First product out
next_mult_pipe First kept out product true = MultPipe Second kept out
next_mult_pipe Second kept out product true = MultPipe Third kept kept
next_mult_pipe phase kept out product go = MultPipe Idle kept out

-- the edge of fil_seq_mult: once begun it goes on whatever go is
abbrev pub next_seq_mult : Phase → (kept product : ℕ) → (go : Bool) → State
next_seq_mult Idle kept product true = SeqMult First product
next_seq_mult First kept product go = SeqMult Second kept
next_seq_mult phase kept product go = SeqMult Idle kept

-- the state after the edge that ends a row
unfoldable pub next_state : Primitive → State → List ℕ → State
next_state (StdReg w) state ins =
    if slice_index ins 1 == 1 then Register (slice_index ins 0) 1 else Register (out_of state) 0
next_state (StdMemD1 w size idx) state ins =
    if slice_index ins 2 == 1
    then Memory (words_with (memory_words state) (place_of (StdMemD1 w size idx) ins) (slice_index ins 1)) 1
    else Memory (memory_words state) 0
next_state (StdMemD2 w size0 size1 idx0 idx1) state ins =
    if slice_index ins 3 == 1
    then Memory (words_with (memory_words state) (place_of (StdMemD2 w size0 size1 idx0 idx1) ins) (slice_index ins 2)) 1
    else Memory (memory_words state) 0
next_state (StdMultPipe w) state ins =
    next_mult_pipe (phase_of state) (kept_of state) (out_of state) (product_bits w (slice_index ins 1) (slice_index ins 2)) (slice_index ins 0 == 1)
next_state (FilDelay w) state ins = Delay (slice_index ins 0)
next_state (FilFastMult w) state ins =
    FastMult (product_bits w (slice_index ins 0) (slice_index ins 1)) (first_of state)
next_state (FilSeqMult w) state ins =
    next_seq_mult (phase_of state) (kept_of state) (product_bits w (slice_index ins 1) (slice_index ins 2)) (slice_index ins 0 == 1)
next_state prim state ins = Stateless

-- within a row the output depends on the input
unfoldable pub is_through : Primitive → Text → Text → Bool
is_through (StdReg w) input output = false
is_through (StdMemD1 w size idx) input output =
    bytes_eq output (codes "read_data") && bytes_eq input (codes "addr0")
is_through (StdMemD2 w size0 size1 idx0 idx1) input output =
    bytes_eq output (codes "read_data") && (bytes_eq input (codes "addr0") || bytes_eq input (codes "addr1"))
is_through (StdMultPipe w) input output = false
is_through (FilDelay w) input output = false
is_through (FilFastMult w) input output = false
is_through (FilSeqMult w) input output = false
is_through prim input output = true
