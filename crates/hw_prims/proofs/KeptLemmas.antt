-- What cells keep.
use Rattle.std.proofs.Common.{◌≡◌, ℕ, zero, suc, ◌+◌, ◌<◌, List, [], ◌∷◌, Bool, true, length, get_or, replicate, set, refl, sym, ap, ap₂, ◌∙◌, arith}
use Rattle.std.proofs.lemmas.List.{map-set, take-replicate, get_or-map, length-map}
use Rattle.std.specs.Prelude.{slice_index}
use Rattle.hw_bits.specs.Values.{values_of}
use Rattle.hw_bits.specs.declared.bits.Bits.{Bits}
use Rattle.hw_prims.specs.Cell.{AreInputs}
use Rattle.hw_prims.specs.Kept.{IsKept}
use Rattle.hw_prims.specs.Table.{Pin, inputs_of}
use Rattle.hw_prims.specs.Meaning.{is_stateless}
use Rattle.hw_prims.specs.Memory.{keeps_words, address_count, word_count, padded_words}
use Rattle.hw_prims.specs.declared.prim.Primitive.{Primitive}
use Rattle.hw_prims.specs.declared.prim.Primitive.TheVariants.{StdMemD1, StdMemD2}
use Rattle.hw_prims.specs.declared.kept.Kept.{Kept}
use Rattle.hw_prims.specs.declared.kept.Kept.TheVariants.{Stateless, Register, Memory, MultPipe, Delay, FastMult, SeqMult}

stateless-word_count : (prim : Primitive) → is_stateless prim ≡ true → word_count prim ≡ 0
unfolding is_stateless keeps_words word_count
stateless-word_count (StdMemD1 w size idx) is = absurd cc
stateless-word_count (StdMemD2 w size0 size1 idx0 idx1) is = absurd cc
stateless-word_count prim is = refl

-- what has a word is a memory
pub words_are_kept : (prim : Primitive) (kept : Kept) (at : ℕ) → IsKept prim kept → at < word_count prim → ((words : _) (done : Bool) → kept ≡ Memory words done → ⊥) → ⊥
unfolding word_count
words_are_kept prim Stateless at is lt missing = let none : word_count prim ≡ 0 = stateless-word_count prim is.0 in omega arith
words_are_kept prim (Register out done) at is lt missing = let none : word_count prim ≡ 0 = rw is refl in omega arith
words_are_kept prim (Memory words done) at is lt missing = missing words done refl
words_are_kept prim (MultPipe phase kept out) at is lt missing = let none : word_count prim ≡ 0 = rw is.0 refl in omega arith
words_are_kept prim (Delay kept) at is lt missing = let none : word_count prim ≡ 0 = rw is refl in omega arith
words_are_kept prim (FastMult first second) at is lt missing = let none : word_count prim ≡ 0 = rw is.0 refl in omega arith
words_are_kept prim (SeqMult phase kept) at is lt missing = let none : word_count prim ≡ 0 = rw is refl in omega arith

-- no words, then zeros
pub no_words_padded : (count : ℕ) → padded_words count [] ≡ replicate count 0
no_words_padded count = take-replicate count count 0 (omega arith)

-- so many equal values
pub values_of_equal : (count : ℕ) (word : Bits) → word.value ≡ 0 → values_of (replicate count word) ≡ replicate count 0
values_of_equal zero word is = refl
values_of_equal (suc count) word is = let others : values_of (replicate count word) ≡ replicate count 0 = values_of_equal count word is in ap₂ ◌∷◌ is others

-- a word put among values
pub values_of_set : (words : List Bits) (place : ℕ) (word : Bits) → values_of (set words place word) ≡ set (values_of words) place word.value
values_of_set words place word = map-set (λ (x : Bits). x.value) words place word

-- there is an input for each pin
pub length-inputs : (prim : Primitive) (inputs : List Bits) → AreInputs prim inputs → length inputs ≡ length (inputs_of prim)
length-inputs prim inputs are =
    sym (length-map inputs (λ (x : Bits). x.width)) ∙ ap length are ∙ length-map (inputs_of prim) (λ (p : Pin). p.width)

-- a memory's data and write_en stand after its addresses
pub data_is_input : (prim : Primitive) (inputs : List Bits) → keeps_words prim ≡ true → AreInputs prim inputs → address_count prim + 1 < length inputs
unfolding keeps_words address_count inputs_of
data_is_input (StdMemD1 w size idx) inputs is are = let e = length-inputs (StdMemD1 w size idx) inputs are in omega arith
data_is_input (StdMemD2 w size0 size1 idx0 idx1) inputs is are = let e = length-inputs (StdMemD2 w size0 size1 idx0 idx1) inputs are in omega arith
data_is_input prim inputs is are = absurd cc

-- the value of an input
pub value_at : (inputs : List Bits) (i : ℕ) (x : Bits) → i < length inputs → x ≡ get_or inputs i x → slice_index (values_of inputs) i ≡ x.value
value_at inputs i x within is = get_or-map (λ (y : Bits). y.value) inputs i x 0 within ∙ sym (ap (λ (y : Bits). y.value) is)
