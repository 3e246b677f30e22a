-- Members of lists, and what holds of each two of them.
use Rattle.std.proofs.Common.{◌≡◌, ◌⊎◌, ℕ, zero, suc, Bool, true, false, List, [], ◌∷◌, filter, get_or, refl, sym, ap, subst, ◌∙◌, inl, inr, arith}
use Rattle.std.specs.Prelude.{AllPairs, Contains, flat_map, if◌then◌else◌}
use Rattle.std.proofs.lemmas.Bool.{false≢true}
use Rattle.std.proofs.lemmas.List.Elements.{Contains-append_cases, Contains-append_left, Contains-append_right, Contains-get_or}
use Rattle.fil_share.proofs.ListLemmas.{Contains-here}
use Rattle.fil_share.proofs.OwnLemmas.{AllPairs-flat}

pub contains_none : {X : Type 0} (x : X) → Contains [] x → ⊥
contains_none x has = omega (arith, has.1)

-- the first, or one of the rest
pub first_or_later : {X : Type 0} (y : X) (xs : List X) (x : X) → Contains (y ∷ xs) x → (y ≡ x) ⊎ Contains xs x
first_or_later y xs x (zero, within, same) = inl same
first_or_later y xs x (suc k, within, same) = inr (k, omega (arith, within), same)

pub contains_in_flat : {X Y : Type 0} (f : X → List Y) (xs : List X) (x : X) (y : Y) → Contains xs x → Contains (f x) y → Contains (flat_map f xs) y
contains_in_flat f [] x y has h = absurd (contains_none x has)
contains_in_flat f (z ∷ xs) x y has h =
    elim (first_or_later z xs x has) [
      | inl same ↦ Contains-append_left (f z) (flat_map f xs) y (subst (λ a. Contains (f a) y) (sym same) h)
      | inr later ↦ Contains-append_right (f z) (flat_map f xs) y (contains_in_flat f xs x y later h)
    ]

pub from_flat : {X Y : Type 0} (f : X → List Y) (xs : List X) (y : Y) → Contains (flat_map f xs) y → (x : X) × Contains xs x × Contains (f x) y
from_flat f [] y has = absurd (contains_none y has)
from_flat f (z ∷ xs) y has =
    elim (Contains-append_cases (f z) (flat_map f xs) y has) [
      | inl here ↦ (z, Contains-here z xs, here)
      | inr there ↦ let m = from_flat f xs y there in (m.0, (suc m.1.0, omega (arith, m.1.1), m.1.2), m.2)
    ]

-- members of a list that is there only on a test
pub from_if : {X : Type 0} (b : Bool) (xs : List X) (x : X) → Contains (if b then xs else []) x → (b ≡ true) × Contains xs x
from_if true xs x has = (refl, has)
from_if false xs x has = absurd (contains_none x has)

pub contains_in_if : {X : Type 0} (b : Bool) (xs : List X) (x : X) → b ≡ true → Contains xs x → Contains (if b then xs else []) x
contains_in_if true xs x is has = has
contains_in_if false xs x is has = absurd (cc)

-- members of what is filtered
pub filter_among : {X : Type 0} (test : X → Bool) (xs : List X) (x : X) → Contains (filter test xs) x → Contains xs x
filter_among test [] x has = absurd (contains_none x has)
filter_among test (y ∷ xs) x has = kept (test y) (filter_among test xs x) has
  where
    later : Contains xs x → Contains (y ∷ xs) x
    later m = (suc m.0, omega (arith, m.1), m.2)

    kept : (b : Bool) → (Contains (filter test xs) x → Contains xs x) → Contains (if b then y ∷ filter test xs else filter test xs) x → Contains (y ∷ xs) x
    kept true rest has' = elim (first_or_later y (filter test xs) x has') [ inl same ↦ (zero, omega arith, same) | inr there ↦ later (rest there) ]
    kept false rest has' = later (rest has')

pub in_filter : {X : Type 0} (test : X → Bool) (xs : List X) (x : X) → Contains xs x → test x ≡ true → Contains (filter test xs) x
in_filter test [] x has passes = absurd (contains_none x has)
in_filter test (y ∷ xs) x has passes =
    elim (first_or_later y xs x has) [
      | inl same ↦ first (test y) (ap test same ∙ passes) same
      | inr later ↦ rest (test y) (in_filter test xs x later passes)
    ]
  where
    first : (b : Bool) → b ≡ true → y ≡ x → Contains (if b then y ∷ filter test xs else filter test xs) x
    first true is same = (zero, omega arith, same)
    first false is same = absurd (false≢true is)

    rest : (b : Bool) → Contains (filter test xs) x → Contains (if b then y ∷ filter test xs else filter test xs) x
    rest true m = (suc m.0, omega (arith, m.1), m.2)
    rest false m = m

pub pairs_of_none : {X : Type 0} (R : X → X → Type 0) → AllPairs R []
pairs_of_none R i j d less within = absurd (omega (arith, less, within))

pub pairs_of_one : {X : Type 0} (R : X → X → Type 0) (x : X) → AllPairs R (x ∷ [])
pairs_of_one R x i j d less within = absurd (omega (arith, less, within))

pub pairs_if : {X : Type 0} (R : X → X → Type 0) (b : Bool) (xs : List X) → AllPairs R xs → AllPairs R (if b then xs else [])
pairs_if R true xs pairs = pairs
pairs_if R false xs pairs = pairs_of_none R

pub pairs_more : {X : Type 0} (R S : X → X → Type 0) (xs : List X) → ((a b : X) → Contains xs a → Contains xs b → R a b → S a b) → AllPairs R xs → AllPairs S xs
pairs_more R S xs more pairs i j d less within =
    more (get_or xs i d) (get_or xs j d) (Contains-get_or xs i d (omega (arith, less, within))) (Contains-get_or xs j d within) (pairs i j d less within)

pub pairs_flat : {X Y : Type 0} (R : Y → Y → Type 0) (f : X → List Y) (xs : List X) → ((x : X) → Contains xs x → AllPairs R (f x)) →
    AllPairs (λ (a b : X). (x y : Y) → Contains (f a) x → Contains (f b) y → R x y) xs → AllPairs R (flat_map f xs)
pairs_flat {X} {Y} R f xs each across =
    AllPairs-flat R f xs (λ (k : ℕ) (d : X) within. each (get_or xs k d) (Contains-get_or xs k d within))
    (λ (i j : ℕ) (d : X) less within (k : ℕ) (a : Y) k_in (m : ℕ) (b : Y) m_in.
    across i j d less within (get_or (f (get_or xs i d)) k a) (get_or (f (get_or xs j d)) m b)
    (Contains-get_or (f (get_or xs i d)) k a k_in) (Contains-get_or (f (get_or xs j d)) m b m_in))
