-- Lists, place by place.
use Rattle.std.proofs.Common.{◌≡◌, ℕ, zero, suc, ◌<◌, Bool, true, false, List, [], ◌∷◌, length, get_or, Option, None, Some, IsSome, refl, arith}
use Rattle.std.specs.Prelude.{slice_get, All}
use Rattle.std.specs.List.{list_all}
use Rattle.std.proofs.lemmas.Option.{slice_get-get_or}

pub is_some_of : {X : Type 0} (o : Option X) → IsSome o → (x : X) × (o ≡ Some x)
is_some_of None told = cc
is_some_of (Some x) told = (x, refl)

pub place_of : {X : Type 0} (xs : List X) (k : ℕ) → k < length xs → (x : X) × (slice_get xs k ≡ Some x)
place_of [] k less = absurd (omega (arith, less))
place_of (x ∷ xs) zero less = (x, refl)
place_of (x ∷ xs) (suc k) less = place_of xs k (omega (arith, less))

-- what holds at each place holds of all
pub all_of : {X : Type 0} (P : X → Type 0) (xs : List X) → ((k : ℕ) → k < length xs → (x : X) → slice_get xs k ≡ Some x → P x) → All P xs
all_of P xs each = λ k d less. each k less (get_or xs k d) (slice_get-get_or xs k d less)

-- the first that is false, where they aren't all true
pub record FirstFalse (bs : List Bool) : Type 0 where
  pub number : ℕ
  pub lesser : (r : ℕ) → r < number → slice_get bs r ≡ Some true
  pub is_false : slice_get bs number ≡ Some false

one_later : (bs : List Bool) → FirstFalse bs → FirstFalse (true ∷ bs)
one_later bs f = record { number = suc f.number; lesser = lesser; is_false = f.is_false }
  where
    lesser : (r : ℕ) → r < suc f.number → slice_get (true ∷ bs) r ≡ Some true
    lesser zero less = refl
    lesser (suc r) less = f.lesser r (omega (arith, less))

pub first_false : (bs : List Bool) → (list_all (λ kept. kept) bs ≡ true → ⊥) → FirstFalse bs
first_false [] lacks = absurd (lacks refl)
first_false (true ∷ bs) lacks = one_later bs (first_false bs lacks)
first_false (false ∷ bs) lacks = record { number = zero; lesser = λ r less. absurd (omega (arith, less)); is_false = refl }
