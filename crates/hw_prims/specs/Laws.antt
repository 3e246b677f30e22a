-- Laws of the table of primitives. This project's.
use Rattle.std.specs.Prelude.{ℕ, ◌≡◌, ◌*◌, ◌^◌, ◌<◌, ◌≤◌, List, [], length, All, map, slice_index, slice_get, Some, Contains, true}
use Rattle.std.specs.List.{AllZip}
use Rattle.hw_prims.specs.Row.{Text}
use Rattle.hw_prims.specs.State.{State, Stateless, Register, Memory, MultPipe, Delay, FastMult, SeqMult}
use Rattle.hw_prims.specs.Table.{IsMade, Pin, inputs_of, outputs_of, pin_names}
use Rattle.hw_prims.specs.Meaning.{opening_state, output_values, next_state, is_through}
use Rattle.hw_prims.specs.Memory.{word_count, state_with_words}
use Rattle.hw_prims.specs.declared.prim.Primitive.{Primitive}
use Rattle.hw_prims.specs.declared.prim.Primitive.TheVariants.{StdReg, StdMemD1, StdMemD2, StdMultPipe, FilDelay, FilFastMult, FilSeqMult}

-- an output's value is determined by the state and by the inputs on which it depends within a row
abbrev pub OutputsFollowThrough : Type 0
OutputsFollowThrough =
    (prim : Primitive) (state : State) (row other : Text → ℕ) (k : ℕ) (output : Text) →
    slice_get (pin_names (outputs_of prim)) k ≡ Some output →
    ((input : Text) → Contains (pin_names (inputs_of prim)) input → is_through prim input output ≡ true → row input ≡ other input) →
    slice_index (output_values prim state (map row (pin_names (inputs_of prim)))) k
    ≡ slice_index (output_values prim state (map other (pin_names (inputs_of prim)))) k

-- there is a value for each pin, and each fits its width
abbrev pub AreValuesOf : List Pin → List ℕ → Type 0
AreValuesOf pins values = AllZip (λ (p : Pin) value. value < 2 ^ p.width) pins values

-- states whose values fit w bits
abbrev pub IsRegister : ℕ → State → Type 0
IsRegister w (Register out done) = (out < 2 ^ w) × (done < 2)
IsRegister w state = ⊥

abbrev pub IsMemory : ℕ → ℕ → State → Type 0
IsMemory count w (Memory words done) = (length words ≡ count) × All (λ word. word < 2 ^ w) words × (done < 2)
IsMemory count w state = ⊥

abbrev pub IsMultPipe : ℕ → State → Type 0
IsMultPipe w (MultPipe phase kept out) = (kept < 2 ^ w) × (out < 2 ^ w)
IsMultPipe w state = ⊥

abbrev pub IsDelay : ℕ → State → Type 0
IsDelay w (Delay kept) = kept < 2 ^ w
IsDelay w state = ⊥

abbrev pub IsFastMult : ℕ → State → Type 0
IsFastMult w (FastMult first second) = (first < 2 ^ w) × (second < 2 ^ w)
IsFastMult w state = ⊥

abbrev pub IsSeqMult : ℕ → State → Type 0
IsSeqMult w (SeqMult phase kept) = kept < 2 ^ w
IsSeqMult w state = ⊥

-- the state is one of the primitive's, and its values fit their widths
unfoldable pub IsStateOf : Primitive → State → Type 0
IsStateOf (StdReg w) state = IsRegister w state
IsStateOf (StdMemD1 w size idx) state = IsMemory size w state
IsStateOf (StdMemD2 w size0 size1 idx0 idx1) state = IsMemory (size0 * size1) w state
IsStateOf (StdMultPipe w) state = IsMultPipe w state
IsStateOf (FilDelay w) state = IsDelay w state
IsStateOf (FilFastMult w) state = IsFastMult w state
IsStateOf (FilSeqMult w) state = IsSeqMult w state
IsStateOf prim state = state ≡ Stateless

-- what follows from values that fit fits
pub record KeepsWidths (prim : Primitive) : Type 0 where
  pub opening : IsStateOf prim (opening_state prim [])
  pub outputs : (state : State) (ins : List ℕ) → IsStateOf prim state → AreValuesOf (inputs_of prim) ins →
      AreValuesOf (outputs_of prim) (output_values prim state ins)
  pub next : (state : State) (ins : List ℕ) → IsStateOf prim state → AreValuesOf (inputs_of prim) ins → IsStateOf prim (next_state prim state ins)

abbrev pub StatesKeepWidths : Type 0
StatesKeepWidths = (prim : Primitive) → IsMade prim → KeepsWidths prim

-- words that are loaded one after another, from the first place on, are those of the opening state
abbrev pub LoadsGiveOpening : Type 0
LoadsGiveOpening =
    (prim : Primitive) (words : List ℕ) → length words ≤ word_count prim → state_with_words (opening_state prim []) 0 words ≡ opening_state prim words
