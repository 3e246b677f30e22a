-- Laws of the table of primitives.
use Rattle.std.proofs.Common.{◌≡◌, ℕ, zero, suc, ◌+◌, ◌*◌, ◌<◌, ◌≤◌, ◌^◌, List, [], ◌∷◌, Bool, true, false, Option, None, Some, refl, sym, ap, ap₂, ◌∙◌, lit<, inl, inr, arith}
use Rattle.std.proofs.Math.Pow.{pow_pos}
use Rattle.std.proofs.lemmas.Bool.{cases_lt}
use Rattle.std.proofs.lemmas.Bool.Decides.{nat_tests}
use Rattle.std.proofs.lemmas.List.{length-replicate, length-set, take-replicate, get_or-map, get_or_past}
use Rattle.std.proofs.lemmas.List.Elements.{All-set, All-replicate}
use Rattle.std.proofs.lemmas.Option.{slice_get-get_or}
use Rattle.std.proofs.lemmas.Nat.{or_lt, xor_lt}
use Rattle.std.specs.Prelude.{codes, map, Contains, All, slice_index, slice_get, length, nat_lt, nat_le, not, if◌then◌else◌, ◌==◌, ◌&&◌}
use Rattle.hw_bits.specs.Width.{product_bits}
use Rattle.hw_bits.proofs.WidthLemmas.{low_bits-lt, sum_bits-lt, difference_bits-lt, product_bits-lt, inverted_bits-lt, left_shifted_bits-lt, right_shifted_bits-lt, bits_between-lt, joined_bits-lt, bit_and-lt, lt-wider}
use Rattle.hw_prims.specs.Laws.{OutputsFollowThrough, StatesKeepWidths, IsStateOf, IsRegister, IsMemory, IsMultPipe, IsDelay, IsFastMult, IsSeqMult, AreValuesOf}
use Rattle.hw_prims.specs.Meaning.{opening_state, output_values, next_state, is_through, seq_mult_out, bit, next_mult_pipe, next_seq_mult}
use Rattle.hw_prims.specs.Memory.{padded_words, place_of, word_at, words_with}
use Rattle.hw_prims.specs.State.{out_of, done_of, memory_words, kept_of, first_of, second_of, phase_of}
use Rattle.hw_prims.specs.Row.{Text, Row, values_at}
use Rattle.hw_prims.specs.State.{State, Register, Memory, MultPipe, Delay, FastMult, SeqMult}
use Rattle.hw_prims.specs.Table.{Pin, inputs_of, outputs_of, pin_names, pin_widths, is_made, IsMade}
use Rattle.hw_prims.specs.declared.phase.Phase.{Phase}
use Rattle.hw_prims.specs.declared.phase.Phase.TheVariants.{Idle, First, Second, Third}
use Rattle.hw_prims.specs.declared.prim.Primitive.{Primitive}
use Rattle.hw_prims.specs.declared.prim.Primitive.TheVariants.{StdConst, StdWire, StdAdd, StdSub, StdAnd, StdOr, StdXor, StdNot, StdEq, StdNeq, StdLt, StdGt, StdLe, StdGe, StdLsh, StdRsh, StdSlice, StdPad, FilMux, FilSlice, FilConcat, StdReg, StdMemD1, StdMemD2, StdMultPipe, FilDelay, FilFastMult, FilSeqMult}

-- rows that agree at each name give the same values
values_agree : (names : List Text) (row other : Text → ℕ) → ((name : Text) → Contains names name → row name ≡ other name) → map row names ≡ map other names
values_agree [] row other same = refl
values_agree (name ∷ names) row other same =
    ap₂ ◌∷◌ (same name (0, omega arith, refl)) (values_agree names row other (λ n has. same n (suc has.0, omega (arith, has.1), has.2)))

-- an output's value is determined by the state and by the inputs on which it depends within a row
pub through_alone : OutputsFollowThrough
unfolding inputs_of outputs_of output_values is_through place_of
through_alone (StdReg w) state row other k output is same = refl
through_alone (StdMultPipe w) state row other k output is same = refl
through_alone (FilDelay w) state row other k output is same = refl
through_alone (FilFastMult w) state row other k output is same = refl
through_alone (FilSeqMult w) state row other k output is same = refl
through_alone (StdMemD1 w size idx) state row other zero output is same =
    let read : output ≡ codes "read_data" = cc in
    let addr0 = same (codes "addr0") (0, lit< tt, refl) (rw read refl) in
    ap (λ (a : ℕ). word_at (memory_words state) (if nat_lt a size then Some a else None)) addr0
through_alone (StdMemD1 w size idx) state row other (suc k) output is same = refl
through_alone (StdMemD2 w size0 size1 idx0 idx1) state row other zero output is same =
    let read : output ≡ codes "read_data" = cc in
    let addr0 = same (codes "addr0") (0, lit< tt, refl) (rw read refl) in
    let addr1 = same (codes "addr1") (1, lit< tt, refl) (rw read refl) in
    ap₂ (λ (a b : ℕ). word_at (memory_words state) (if nat_lt a size0 && nat_lt b size1 then Some (a * size1 + b) else None)) addr0 addr1
through_alone (StdMemD2 w size0 size1 idx0 idx1) state row other (suc k) output is same = refl
through_alone prim state row other k output is same =
    ap (λ (ins : List ℕ). slice_index (output_values prim state ins) k) (values_agree (pin_names (inputs_of prim)) row other (λ input has. same input has refl))

-- in two rows in which the state is one and the through inputs agree, an output agrees
pub output_agrees : (prim : Primitive) (state : State) (row other : Row) (at : Text → Text) →
    values_at row at (pin_names (outputs_of prim)) ≡ output_values prim state (values_at row at (pin_names (inputs_of prim))) →
    values_at other at (pin_names (outputs_of prim)) ≡ output_values prim state (values_at other at (pin_names (inputs_of prim))) →
    (output : Text) → Contains (pin_names (outputs_of prim)) output →
    ((input : Text) → Contains (pin_names (inputs_of prim)) input → is_through prim input output ≡ true → row (at input) ≡ other (at input)) →
    row (at output) ≡ other (at output)
output_agrees prim state row other at computed computed_other output has same =
    let outputs : List Text = pin_names (outputs_of prim) in
    let ins : List Text = pin_names (inputs_of prim) in
    let k : ℕ = has.0 in
    let found : slice_get outputs k ≡ Some output = slice_get-get_or outputs k output has.1 ∙ ap (λ (t : Text). Some t) has.2 in
    let value = λ (r : Row) (is : values_at r at outputs ≡ output_values prim state (values_at r at ins)).
    ap (λ (t : Text). r (at t)) (sym has.2) ∙ sym (get_or-map (λ (t : Text). r (at t)) outputs k output 0 has.1) ∙ ap (λ (vs : List ℕ). slice_index vs k) is in
    value row computed
    ∙ through_alone prim state (λ (t : Text). row (at t)) (λ (t : Text). other (at t)) k output found same
    ∙ sym (value other computed_other)

-- there is a value for each output
pub length-output_values : (prim : Primitive) (state : State) (ins : List ℕ) → length (output_values prim state ins) ≡ length (outputs_of prim)
unfolding outputs_of output_values
length-output_values (StdConst w v) state ins = refl
length-output_values prim state ins = refl

-- a value fits its pin
pub value_fits : (pins : List Pin) (values : List ℕ) → AreValuesOf pins values → (k : ℕ) → k < length pins → slice_index values k < 2 ^ slice_index (pin_widths pins) k
value_fits (p ∷ ps) (v ∷ vs) fit zero lt = fit.0
value_fits (p ∷ ps) (v ∷ vs) fit (suc k) lt = value_fits ps vs fit.1 k (omega (arith, lt))
value_fits [] values fit k lt = absurd (omega (arith, lt))
value_fits (p ∷ ps) [] fit k lt = absurd fit

pub input_fits : (prim : Primitive) (ins : List ℕ) → AreValuesOf (inputs_of prim) ins → (k : ℕ) → k < length (inputs_of prim) → slice_index ins k < 2 ^ slice_index (pin_widths (inputs_of prim)) k
input_fits prim ins fit k lt = value_fits (inputs_of prim) ins fit k lt

zeros_fit : (count w : ℕ) → (length (padded_words count []) ≡ count) × All (λ (word : ℕ). word < 2 ^ w) (padded_words count [])
zeros_fit count w =
    let all : count ≤ count = omega arith in
    rw (take-replicate {X = ℕ} count count 0 all) (length-replicate count 0, All-replicate (λ (word : ℕ). word < 2 ^ w) count 0 (pow_pos w))

opening_fits : (prim : Primitive) → IsStateOf prim (opening_state prim [])
unfolding IsStateOf opening_state
opening_fits (StdReg w) = (pow_pos w, lit< tt)
opening_fits (StdMemD1 w size idx) = let zeros = zeros_fit size w in (zeros.0, zeros.1, lit< tt)
opening_fits (StdMemD2 w size0 size1 idx0 idx1) = let zeros = zeros_fit (size0 * size1) w in (zeros.0, zeros.1, lit< tt)
opening_fits (StdMultPipe w) = (pow_pos w, pow_pos w)
opening_fits (FilDelay w) = pow_pos w
opening_fits (FilFastMult w) = (pow_pos w, pow_pos w)
opening_fits (FilSeqMult w) = pow_pos w
opening_fits prim = refl

-- parts of a state fit
register_fits : (w : ℕ) (state : State) → IsRegister w state → (out_of state < 2 ^ w) × (done_of state < 2)
register_fits w (Register out done) is = is
register_fits w state is = absurd is

memory_fits : (count w : ℕ) (state : State) → IsMemory count w state → (length (memory_words state) ≡ count) × All (λ (word : ℕ). word < 2 ^ w) (memory_words state) × (done_of state < 2)
memory_fits count w (Memory words done) is = is
memory_fits count w state is = absurd is

mult_pipe_fits : (w : ℕ) (state : State) → IsMultPipe w state → (kept_of state < 2 ^ w) × (out_of state < 2 ^ w) × (done_of state < 2)
mult_pipe_fits w (MultPipe Third kept out) is = (is.0, is.1, lit< tt)
mult_pipe_fits w (MultPipe phase kept out) is = (is.0, is.1, lit< tt)
mult_pipe_fits w state is = absurd is

delay_fits : (w : ℕ) (state : State) → IsDelay w state → kept_of state < 2 ^ w
delay_fits w (Delay kept) is = is
delay_fits w state is = absurd is

fast_mult_fits : (w : ℕ) (state : State) → IsFastMult w state → (first_of state < 2 ^ w) × (second_of state < 2 ^ w)
fast_mult_fits w (FastMult first second) is = is
fast_mult_fits w state is = absurd is

seq_mult_fits : (w : ℕ) (state : State) → IsSeqMult w state → kept_of state < 2 ^ w
seq_mult_fits w (SeqMult phase kept) is = is
seq_mult_fits w state is = absurd is

word_fits : (w : ℕ) (words : List ℕ) (place : Option ℕ) → All (λ (word : ℕ). word < 2 ^ w) words → word_at words place < 2 ^ w
word_fits w words (Some place) all =
    elim (cases_lt place (length words)) [
      | inl within ↦ all place 0 within
      | inr past ↦ rw (get_or_past words place 0 past) (pow_pos w)
    ]
word_fits w words None all = pow_pos w

seq_mult_out_fits : (w : ℕ) (phase : Phase) (kept : ℕ) → kept < 2 ^ w → seq_mult_out phase kept < 2 ^ w
seq_mult_out_fits w Second kept fits = fits
seq_mult_out_fits w phase kept fits = pow_pos w

bit_fits : (on : Bool) → bit on < 2
bit_fits true = lit< tt
bit_fits false = lit< tt

choice_fits : (w x y : ℕ) (on : Bool) → x < 2 ^ w → y < 2 ^ w → (if on then x else y) < 2 ^ w
choice_fits w x y true left right = left
choice_fits w x y false left right = right

constant_fits : (w v : ℕ) → IsMade (StdConst w v) → v < 2 ^ w
unfolding is_made
constant_fits w v made = grind (arith, nat_tests)

pad_widens : (i o : ℕ) → IsMade (StdPad i o) → i ≤ o
unfolding is_made
pad_widens i o made = grind (arith, nat_tests)

outputs_fit : (prim : Primitive) (state : State) (ins : List ℕ) → IsMade prim → IsStateOf prim state → AreValuesOf (inputs_of prim) ins → AreValuesOf (outputs_of prim) (output_values prim state ins)
unfolding IsStateOf inputs_of outputs_of output_values
outputs_fit (StdConst w v) state ins made is fit = (constant_fits w v made, tt)
outputs_fit (StdWire w) state ins made is fit = (input_fits (StdWire w) ins fit 0 (lit< tt), tt)
outputs_fit (StdAdd w) state ins made is fit = (sum_bits-lt w (slice_index ins 0) (slice_index ins 1), tt)
outputs_fit (StdSub w) state ins made is fit = (difference_bits-lt w (slice_index ins 0) (slice_index ins 1), tt)
outputs_fit (StdAnd w) state ins made is fit = (bit_and-lt w (slice_index ins 0) (slice_index ins 1) (input_fits (StdAnd w) ins fit 0 (lit< tt)), tt)
outputs_fit (StdOr w) state ins made is fit =
    (or_lt w (slice_index ins 0) (slice_index ins 1) (input_fits (StdOr w) ins fit 0 (lit< tt)) (input_fits (StdOr w) ins fit 1 (lit< tt)), tt)
outputs_fit (StdXor w) state ins made is fit =
    (xor_lt w (slice_index ins 0) (slice_index ins 1) (input_fits (StdXor w) ins fit 0 (lit< tt)) (input_fits (StdXor w) ins fit 1 (lit< tt)), tt)
outputs_fit (StdNot w) state ins made is fit = (inverted_bits-lt w (slice_index ins 0), tt)
outputs_fit (StdEq w) state ins made is fit = (bit_fits (slice_index ins 0 == slice_index ins 1), tt)
outputs_fit (StdNeq w) state ins made is fit = (bit_fits (not (slice_index ins 0 == slice_index ins 1)), tt)
outputs_fit (StdLt w) state ins made is fit = (bit_fits (nat_lt (slice_index ins 0) (slice_index ins 1)), tt)
outputs_fit (StdGt w) state ins made is fit = (bit_fits (nat_lt (slice_index ins 1) (slice_index ins 0)), tt)
outputs_fit (StdLe w) state ins made is fit = (bit_fits (nat_le (slice_index ins 0) (slice_index ins 1)), tt)
outputs_fit (StdGe w) state ins made is fit = (bit_fits (nat_le (slice_index ins 1) (slice_index ins 0)), tt)
outputs_fit (StdLsh w) state ins made is fit = (left_shifted_bits-lt w (slice_index ins 0) (slice_index ins 1), tt)
outputs_fit (StdRsh w) state ins made is fit =
    (right_shifted_bits-lt w (slice_index ins 0) (slice_index ins 1) (input_fits (StdRsh w) ins fit 0 (lit< tt)), tt)
outputs_fit (StdSlice i o) state ins made is fit = (low_bits-lt o (slice_index ins 0), tt)
outputs_fit (StdPad i o) state ins made is fit =
    (lt-wider i o (slice_index ins 0) (pad_widens i o made) (input_fits (StdPad i o) ins fit 0 (lit< tt)), tt)
outputs_fit (FilMux w) state ins made is fit =
    (choice_fits w (slice_index ins 1) (slice_index ins 2) (slice_index ins 0 == 1) (input_fits (FilMux w) ins fit 1 (lit< tt)) (input_fits (FilMux w) ins fit 2 (lit< tt)), tt)
outputs_fit (FilSlice w hi lo) state ins made is fit = (bits_between-lt (slice_index ins 0) hi lo, tt)
outputs_fit (FilConcat a b) state ins made is fit =
    (joined_bits-lt a b (slice_index ins 0) (slice_index ins 1) (input_fits (FilConcat a b) ins fit 0 (lit< tt)) (input_fits (FilConcat a b) ins fit 1 (lit< tt)), tt)
outputs_fit (StdReg w) state ins made is fit = let f = register_fits w state is in (f.0, (f.1, tt))
outputs_fit (StdMemD1 w size idx) state ins made is fit =
    let f = memory_fits size w state is in
    (word_fits w (memory_words state) (place_of (StdMemD1 w size idx) ins) f.1, (f.2, tt))
outputs_fit (StdMemD2 w size0 size1 idx0 idx1) state ins made is fit =
    let f = memory_fits (size0 * size1) w state is in
    (word_fits w (memory_words state) (place_of (StdMemD2 w size0 size1 idx0 idx1) ins) f.1, (f.2, tt))
outputs_fit (StdMultPipe w) state ins made is fit = let f = mult_pipe_fits w state is in (f.1, (f.2, tt))
outputs_fit (FilDelay w) state ins made is fit = (delay_fits w state is, tt)
outputs_fit (FilFastMult w) state ins made is fit = ((fast_mult_fits w state is).1, tt)
outputs_fit (FilSeqMult w) state ins made is fit = (seq_mult_out_fits w (phase_of state) (kept_of state) (seq_mult_fits w state is), tt)

written_fits : (count w : ℕ) (words : List ℕ) (place : Option ℕ) (word : ℕ) → word < 2 ^ w → (length words ≡ count) × All (λ (x : ℕ). x < 2 ^ w) words → (length (words_with words place word) ≡ count) × All (λ (x : ℕ). x < 2 ^ w) (words_with words place word)
written_fits count w words (Some place) word fits are =
    (length-set words place word ∙ are.0, All-set (λ (x : ℕ). x < 2 ^ w) words place word fits are.1)
written_fits count w words None word fits are = are

next_memory_fits : (count w : ℕ) (words : List ℕ) (place : Option ℕ) (word : ℕ) (on : Bool) → word < 2 ^ w → (length words ≡ count) × All (λ (x : ℕ). x < 2 ^ w) words → IsMemory count w (if on then Memory (words_with words place word) 1 else Memory words 0)
next_memory_fits count w words place word true fits are = let f = written_fits count w words place word fits are in (f.0, f.1, lit< tt)
next_memory_fits count w words place word false fits are = (are.0, are.1, lit< tt)

next_register_fits : (w value out : ℕ) (on : Bool) → value < 2 ^ w → out < 2 ^ w → IsRegister w (if on then Register value 1 else Register out 0)
next_register_fits w value out true new old = (new, lit< tt)
next_register_fits w value out false new old = (old, lit< tt)

next_mult_pipe_fits : (w : ℕ) (phase : Phase) (kept out product : ℕ) (go : Bool) → kept < 2 ^ w → out < 2 ^ w → product < 2 ^ w → IsMultPipe w (next_mult_pipe phase kept out product go)
next_mult_pipe_fits w Idle kept out product true k o p = (p, o)
next_mult_pipe_fits w First kept out product true k o p = (k, o)
next_mult_pipe_fits w Second kept out product true k o p = (k, k)
next_mult_pipe_fits w phase kept out product go k o p = (k, o)

next_seq_mult_fits : (w : ℕ) (phase : Phase) (kept product : ℕ) (go : Bool) → kept < 2 ^ w → product < 2 ^ w → IsSeqMult w (next_seq_mult phase kept product go)
next_seq_mult_fits w Idle kept product true k p = p
next_seq_mult_fits w First kept product go k p = k
next_seq_mult_fits w phase kept product go k p = k

next_fits : (prim : Primitive) (state : State) (ins : List ℕ) → IsStateOf prim state → AreValuesOf (inputs_of prim) ins → IsStateOf prim (next_state prim state ins)
unfolding IsStateOf inputs_of next_state
next_fits (StdReg w) state ins is fit =
    next_register_fits w (slice_index ins 0) (out_of state) (slice_index ins 1 == 1) (input_fits (StdReg w) ins fit 0 (lit< tt)) (register_fits w state is).0
next_fits (StdMemD1 w size idx) state ins is fit =
    let f = memory_fits size w state is in
    next_memory_fits size w (memory_words state) (place_of (StdMemD1 w size idx) ins) (slice_index ins 1) (slice_index ins 2 == 1) (input_fits (StdMemD1 w size idx) ins fit 1 (lit< tt)) (f.0, f.1)
next_fits (StdMemD2 w size0 size1 idx0 idx1) state ins is fit =
    let prim : Primitive = StdMemD2 w size0 size1 idx0 idx1 in
    let f = memory_fits (size0 * size1) w state is in
    next_memory_fits (size0 * size1) w (memory_words state) (place_of prim ins) (slice_index ins 2) (slice_index ins 3 == 1) (input_fits prim ins fit 2 (lit< tt)) (f.0, f.1)
next_fits (StdMultPipe w) state ins is fit =
    let f = mult_pipe_fits w state is in
    next_mult_pipe_fits w (phase_of state) (kept_of state) (out_of state) (product_bits w (slice_index ins 1) (slice_index ins 2)) (slice_index ins 0 == 1) f.0 f.1 (product_bits-lt w (slice_index ins 1) (slice_index ins 2))
next_fits (FilDelay w) state ins is fit = input_fits (FilDelay w) ins fit 0 (lit< tt)
next_fits (FilFastMult w) state ins is fit =
    (product_bits-lt w (slice_index ins 0) (slice_index ins 1), (fast_mult_fits w state is).0)
next_fits (FilSeqMult w) state ins is fit =
    next_seq_mult_fits w (phase_of state) (kept_of state) (product_bits w (slice_index ins 1) (slice_index ins 2)) (slice_index ins 0 == 1) (seq_mult_fits w state is) (product_bits-lt w (slice_index ins 1) (slice_index ins 2))
next_fits prim state ins is fit = refl

-- what follows from values that fit fits
pub keeps_widths : StatesKeepWidths
keeps_widths prim made =
    record {
      opening = opening_fits prim;
      outputs = λ state ins is fit. outputs_fit prim state ins made is fit;
      next = next_fits prim;
    }
