-- The first of numbers, and the least of texts, is one.
use Rattle.std.proofs.Common.{◌≡◌, ◌≢◌, ℕ, ◌<◌, inl, inr, refl, arith}
use Rattle.std.proofs.lemmas.Bool.{cases_lt}
use Rattle.std.proofs.lemmas.Cmp.{nat_list_cmp_total}
use Rattle.std.proofs.lemmas.Map.Lookups.{exact_bytes}
use Rattle.std.specs.Cmp.Lexicographic.{slice_cmp}
use Rattle.std.specs.Ordering.{nat_cmp, ordering_reverse}
use Rattle.std.specs.declared.cmp.Ordering.{Ordering}
use Rattle.std.specs.declared.cmp.Ordering.TheVariants.{Less, Equal, Greater}
use Rattle.hw_names.specs.Name.{Text}

-- a number is below another, above it, or the same
pub data Compared (i j : ℕ) : Type 0 where
  Below : i < j → Compared i j
  Above : j < i → Compared i j
  Same : i ≡ j → Compared i j

pub compared : (i j : ℕ) → Compared i j
compared i j = elim (cases_lt i j) [
  | inl below ↦ Below below
  | inr least ↦ elim (cases_lt j i) [ inl above ↦ Above above | inr most ↦ Same (omega (arith, least, most)) ]
]

-- numbers of which neither is below the other are the same
pub neither_below : (i j : ℕ) → (i < j → ⊥) → (j < i → ⊥) → i ≡ j
neither_below i j above below = elim (compared i j) [ Below less ↦ absurd (above less) | Above more ↦ absurd (below more) | Same same ↦ same ]

equal_of : (o p : Ordering) → p ≡ ordering_reverse o → o ≢ Greater → p ≢ Greater → o ≡ Equal
equal_of Less p e not_o not_p = absurd (not_p e)
equal_of Equal p e not_o not_p = refl
equal_of Greater p e not_o not_p = absurd (not_o refl)

-- texts of which neither is greater than the other are the same
pub neither_greater : (x y : Text) → slice_cmp nat_cmp x y ≢ Greater → slice_cmp nat_cmp y x ≢ Greater → x ≡ y
neither_greater x y not_x not_y = exact_bytes x y (equal_of (slice_cmp nat_cmp x y) (slice_cmp nat_cmp y x) (nat_list_cmp_total.antisymm y x) not_x not_y)
