-- The timing of Filament's primitives is that of their signatures.
use Rattle.std.proofs.Common.{◌≡◌, ℕ, ◌+◌, ◌≤◌, Bool, true, false, List, [], ◌∷◌, Option, Some, None, refl, sym, subst, ◌∙◌, arith}
use Rattle.std.specs.Option.{option_and_then}
use Rattle.std.specs.Prelude.{codes}
use Rattle.std.proofs.lemmas.Bool.{false≢true}
use Rattle.std.proofs.lemmas.Option.{cond_some, option_and_then_some, same_Some}
use Rattle.hw_names.specs.Name.{Text}
use Rattle.hw_prims.specs.Filament.{delay_of, given, go_of, is_timed, latency_of}
use Rattle.hw_prims.specs.Memory.{keeps_words}
use Rattle.hw_prims.specs.Table.{Pin, is_made, one, prim_in_range, prim_name, prim_names, prim_of, three, two, with_params}
use Rattle.hw_prims.specs.Timed.{Fixed}
use Rattle.hw_prims.specs.declared.name.PrimName.{PrimName}
use Rattle.hw_prims.specs.declared.name.PrimName.TheVariants as name
use Rattle.hw_prims.specs.declared.prim.Primitive.{Primitive}
use Rattle.hw_prims.specs.declared.prim.Primitive.TheVariants.{StdReg}
use Rattle.fil_ast.proofs.PrimitiveLemmas.{OfEach, row_of}
use Rattle.fil_ast.specs.Primitives.{FilamentPrimitive, Timing, filament_primitive, filament_primitives, register_timing, table_name, timing, timing_of}

-- how a Filament name times the primitive that it means: by one event of fixed delay, or as a register
pub data IsTiming : Timing → Primitive → Type 0 where
  Plain : (rows latency : ℕ) (go : Option Text) (prim : Primitive) → 1 ≤ rows → is_timed prim ≡ true → delay_of prim ≡ Fixed rows → go_of prim ≡ go →
      ((p : Pin) → given prim p ≡ record { name = p.name; event = 0; from = latency; to = latency + 1; stays = false }) → IsTiming (timing rows go latency) prim
  Register : (w : ℕ) → IsTiming register_timing (StdReg w)

made_one : (P : Primitive → Type 0) (make : ℕ → Primitive) → ((a : ℕ) → P (make a)) → (params : List ℕ) (prim : Primitive) → one make params ≡ Some prim → P prim
made_one P make known [] prim is = absurd (cc)
made_one P make known (a ∷ []) prim is = subst P (same_Some (make a) prim is) (known a)
made_one P make known (a ∷ b ∷ params) prim is = absurd (cc)

made_two : (P : Primitive → Type 0) (make : ℕ → ℕ → Primitive) → ((a b : ℕ) → P (make a b)) → (params : List ℕ) (prim : Primitive) → two make params ≡ Some prim → P prim
made_two P make known [] prim is = absurd (cc)
made_two P make known (a ∷ []) prim is = absurd (cc)
made_two P make known (a ∷ b ∷ []) prim is = subst P (same_Some (make a b) prim is) (known a b)
made_two P make known (a ∷ b ∷ c ∷ params) prim is = absurd (cc)

made_three : (P : Primitive → Type 0) (make : ℕ → ℕ → ℕ → Primitive) → ((a b c : ℕ) → P (make a b c)) → (params : List ℕ) (prim : Primitive) → three make params ≡ Some prim → P prim
made_three P make known [] prim is = absurd (cc)
made_three P make known (a ∷ []) prim is = absurd (cc)
made_three P make known (a ∷ b ∷ []) prim is = absurd (cc)
made_three P make known (a ∷ b ∷ c ∷ []) prim is = subst P (same_Some (make a b c) prim is) (known a b c)
made_three P make known (a ∷ b ∷ c ∷ d ∷ params) prim is = absurd (cc)

-- the timing of the primitives of a name, where Filament can use them
abbrev timing_by : PrimName → Timing
timing_by name.StdReg = register_timing
timing_by name.FilSeqMult = timing 3 (Some (codes "go")) 2
timing_by name.FilFastMult = timing 1 None 2
timing_by name.FilDelay = timing 1 None 1
timing_by n = timing 1 None 0

abbrev times : PrimName → Bool
times name.StdMemD1 = false
times name.StdMemD2 = false
times name.StdMultPipe = false
times n = true

of_name : (n : PrimName) → times n ≡ true → (params : List ℕ) (prim : Primitive) → with_params n params ≡ Some prim → IsTiming (timing_by n) prim
unfolding with_params is_timed keeps_words delay_of go_of given latency_of
of_name name.StdMemD1 known params prim is = absurd (false≢true known)
of_name name.StdMemD2 known params prim is = absurd (false≢true known)
of_name name.StdMultPipe known params prim is = absurd (false≢true known)
of_name name.StdReg known params prim is = made_one (IsTiming register_timing) _ (λ a. Register a) params prim is
of_name name.FilSeqMult known params prim is = made_one (IsTiming (timing 3 (Some (codes "go")) 2)) _ (λ a. Plain 3 2 (Some (codes "go")) _ (omega arith) refl refl refl (λ p. refl)) params prim is
of_name name.FilFastMult known params prim is = made_one (IsTiming (timing 1 None 2)) _ (λ a. Plain 1 2 None _ (omega arith) refl refl refl (λ p. refl)) params prim is
of_name name.FilDelay known params prim is = made_one (IsTiming (timing 1 None 1)) _ (λ a. Plain 1 1 None _ (omega arith) refl refl refl (λ p. refl)) params prim is
of_name name.StdConst known params prim is = made_two (IsTiming (timing 1 None 0)) _ (λ a b. Plain 1 0 None _ (omega arith) refl refl refl (λ p. refl)) params prim is
of_name name.StdSlice known params prim is = made_two (IsTiming (timing 1 None 0)) _ (λ a b. Plain 1 0 None _ (omega arith) refl refl refl (λ p. refl)) params prim is
of_name name.StdPad known params prim is = made_two (IsTiming (timing 1 None 0)) _ (λ a b. Plain 1 0 None _ (omega arith) refl refl refl (λ p. refl)) params prim is
of_name name.FilConcat known params prim is = made_two (IsTiming (timing 1 None 0)) _ (λ a b. Plain 1 0 None _ (omega arith) refl refl refl (λ p. refl)) params prim is
of_name name.FilSlice known params prim is = made_three (IsTiming (timing 1 None 0)) _ (λ a b c. Plain 1 0 None _ (omega arith) refl refl refl (λ p. refl)) params prim is
of_name n known params prim is = made_one (IsTiming (timing 1 None 0)) _ (λ a. Plain 1 0 None _ (omega arith) refl refl refl (λ p. refl)) params prim is

-- a row of Filament's name and the table's name, which means primitives of the name's timing
record IsTimedRow (filament table : Text) : Type 0 where
  means : PrimName
  is : prim_name table ≡ Some means
  known : times means ≡ true
  same : timing_by means ≡ timing_of filament

abbrev IsTimed : FilamentPrimitive → Type 0
IsTimed p = IsTimedRow p.name p.table

all_timed : OfEach IsTimed filament_primitives
unfolding prim_names
all_timed = (
  record { means = name.StdAdd; is = refl; known = refl; same = refl },
  (
    record { means = name.StdSub; is = refl; known = refl; same = refl },
    (
      record { means = name.StdAnd; is = refl; known = refl; same = refl },
      (
        record { means = name.StdOr; is = refl; known = refl; same = refl },
        (
          record { means = name.StdXor; is = refl; known = refl; same = refl },
          (
            record { means = name.StdEq; is = refl; known = refl; same = refl },
            (
              record { means = name.StdLt; is = refl; known = refl; same = refl },
              (
                record { means = name.StdNot; is = refl; known = refl; same = refl },
                (
                  record { means = name.FilMux; is = refl; known = refl; same = refl },
                  (
                    record { means = name.FilSlice; is = refl; known = refl; same = refl },
                    (
                      record { means = name.StdPad; is = refl; known = refl; same = refl },
                      (
                        record { means = name.FilConcat; is = refl; known = refl; same = refl },
                        (
                          record { means = name.FilDelay; is = refl; known = refl; same = refl },
                          (
                            record { means = name.FilFastMult; is = refl; known = refl; same = refl },
                            (
                              record { means = name.StdReg; is = refl; known = refl; same = refl },
                              (record { means = name.FilSeqMult; is = refl; known = refl; same = refl }, tt),
                            ),
                          ),
                        ),
                      ),
                    ),
                  ),
                ),
              ),
            ),
          ),
        ),
      ),
    ),
  ),
)

timed_row : (made table : Text) → table_name made ≡ Some table → IsTimedRow made table
timed_row made table told =
    let p = row_of IsTimed all_timed made table told in
    subst (λ (t : Text). IsTimedRow made t) p.tabled (subst (λ (n : Text). IsTimedRow n p.row.table) (sym p.named) p.holds)

pub filament_timing : (made : Text) (params : List ℕ) (prim : Primitive) → filament_primitive made params ≡ Some prim → IsTiming (timing_of made) prim
unfolding prim_of
filament_timing made params prim is =
    option_and_then_some (λ (t : Text). prim_of t params) (table_name made) prim is (λ table told of_table.
    option_and_then_some prim_in_range (option_and_then (λ n. with_params n params) (prim_name table)) prim of_table (λ whole with_them in_range.
    option_and_then_some (λ n. with_params n params) (prim_name table) whole with_them (λ n named made_of.
    let row = timed_row made table told in
    let same : row.means ≡ n = same_Some row.means n (sym row.is ∙ named) in
    subst (λ (p : Primitive). IsTiming (timing_of made) p) (cond_some (is_made whole) whole prim in_range).1
    (subst (λ (t : Timing). IsTiming t whole) row.same (of_name row.means row.known params whole (subst (λ (m : PrimName). with_params m params ≡ Some whole) (sym same) made_of))))))

timing_is_timed : (t : Timing) (prim : Primitive) → IsTiming t prim → is_timed prim ≡ true
unfolding is_timed keeps_words
timing_is_timed t prim (Plain rows latency go prim' some timed fixed is_go port) = timed
timing_is_timed t prim (Register w) = refl

pub filament_is_timed : (made : Text) (params : List ℕ) (prim : Primitive) → filament_primitive made params ≡ Some prim → is_timed prim ≡ true
filament_is_timed made params prim is = timing_is_timed (timing_of made) prim (filament_timing made params prim is)
