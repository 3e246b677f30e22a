-- Tests one after another, and tests of widths, names and places.
use Rattle.std.proofs.Common.{◌≡◌, ◌↔◌, ℕ, Bool, true, false, not, eqb, [], length, Option, Some, Vec, Global, refl, sym, ap, ◌∙◌, arith}
use Rattle.std.specs.Bool.{IsTrue}
use Rattle.std.specs.Option.{option_eq}
use Rattle.std.specs.Prelude.{vec_len}
use Rattle.std.proofs.lemmas.Bool.Decides.{Decides-eqb}
use Rattle.std.proofs.lemmas.List.{nil_from_length}
use mathlib.Core.Bool.{beq}
use Rattle.cal_place.proofs.SideLemmas.{same_width}

-- a test that fails
pub told_no : (P : Type 0) (b : Bool) → b ≡ false → (P → ⊥) → IsTrue b ↔ P
told_no P b is not_so = (λ t. let bad : false ≡ true = sym is ∙ t in absurd (cc), λ p. absurd (not_so p))

-- what a test that failed tells
pub fails : (P : Type 0) (b : Bool) → IsTrue b ↔ P → b ≡ false → P → ⊥
fails P b told is p = let bad : false ≡ true = sym is ∙ told.1 p in cc

-- two tests, the second where the first passes
pub both_parts : (A B : Type 0) (a b : Bool) → IsTrue a ↔ A → a ≡ true → IsTrue b ↔ B → IsTrue b ↔ (A × B)
both_parts A B a b first is second = (λ t. (first.0 is, second.0 t), λ ab. second.1 ab.1)

pub first_fails : (A B : Type 0) (a : Bool) → IsTrue a ↔ A → a ≡ false → IsTrue a ↔ (A × B)
first_fails A B a first is = told_no (A × B) a is (λ ab. fails A a first is ab.0)

-- ---- widths

-- a width is the one that is asked for
pub width_told : (o : Option ℕ) (width asked : ℕ) → o ≡ Some width → IsTrue (eqb width asked) ↔ (o ≡ Some asked)
width_told o width asked is = (
  λ t. is ∙ ap Some ((Decides-eqb width asked).0 t),
  λ e. (Decides-eqb width asked).1 (let f : Some width ≡ Some asked = sym is ∙ e in let same : width ≡ asked = cc in same),
)

module _ (a b first second : Option ℕ) (r : Bool) (is_first : a ≡ first) (is_second : b ≡ second) where
  pub widths_told : r ≡ option_eq eqb a b → IsTrue r ↔ (first ≡ second)
  widths_told is =
      let test = same_width a b in
      (λ t. sym is_first ∙ test.0 (sym is ∙ t) ∙ is_second, λ e. is ∙ test.1 (is_first ∙ e ∙ sym is_second))

  -- the same by `!=`
  pub widths_differ : r ≡ not (option_eq eqb a b) → r ≡ true → first ≡ second → ⊥
  widths_differ is told e =
      let tested : option_eq eqb a b ≡ true = (same_width a b).1 (is_first ∙ e ∙ sym is_second) in
      let bad : true ≡ false = sym told ∙ is ∙ ap not tested in
      cc

  pub widths_agree : r ≡ not (option_eq eqb a b) → r ≡ false → first ≡ second
  widths_agree is told = by (option_eq eqb a b) refl
    where
      by : (t : Bool) → option_eq eqb a b ≡ t → first ≡ second
      by true e = sym is_first ∙ (same_width a b).0 e ∙ is_second
      by false e = let bad : false ≡ true = sym told ∙ is ∙ ap not e in absurd (cc)

-- ---- what else is tested

-- two truth values are the same
pub same_truth : (a b : Bool) → IsTrue (beq a b) ↔ (a ≡ b)
same_truth true true = (λ t. refl, λ e. refl)
same_truth true false = (λ t. let bad : false ≡ true = t in absurd (cc), λ e. absurd (cc))
same_truth false true = (λ t. let bad : false ≡ true = t in absurd (cc), λ e. absurd (cc))
same_truth false false = (λ t. refl, λ e. refl)

-- a vector without elements
pub vec_empty : {X : Type 0} (v : Vec X Global) (r : Bool) → r ≡ eqb (vec_len v) 0 → IsTrue r ↔ (v.items ≡ [])
vec_empty v r is = (
  λ t. nil_from_length v.items (let zero' : vec_len v ≡ 0 = (Decides-eqb (vec_len v) 0).0 (sym is ∙ t) in omega (arith, v.ok.0)),
  λ e. is ∙ (Decides-eqb (vec_len v) 0).1 (let none : length v.items ≡ 0 = ap length e in omega (arith, v.ok.0)),
)
