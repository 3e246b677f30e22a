-- Tests of which one part is known, and facts that hang on a test.
use Rattle.std.proofs.Common.{◌≡◌, Bool, true, false, ◌&&◌, ◌||◌, MatchBool, refl, sym, ap, subst, ◌∙◌}
use Rattle.std.specs.Prelude.{if◌then◌else◌}
use Rattle.std.proofs.lemmas.Bool.{and_right}

-- ---- of two tests the one fails

pub only_first : (a b x : Bool) → a ≡ x → b ≡ false → (a || b) ≡ x
only_first true b x e none = e
only_first false b x e none = none ∙ e

pub only_second : (a b x : Bool) → a ≡ false → b ≡ x → (a || b) ≡ x
only_second a b x none e = ap (λ y. y || b) none ∙ e

pub neither : (b x y : Bool) → x ≡ false → y ≡ false → (if b then x else y) ≡ false
neither true x y one other = one
neither false x y one other = other

-- ---- each of two tests is known

pub or_same : (a b c d : Bool) → a ≡ c → b ≡ d → (a || b) ≡ (c || d)
or_same a b c d one other = ap (λ y. y || b) one ∙ ap (λ y. c || y) other

pub and_same : (a b c d : Bool) → a ≡ c → b ≡ d → (a && b) ≡ (c && d)
and_same a b c d one other = ap (λ y. y && b) one ∙ ap (λ y. c && y) other

pub and_true : (b : Bool) → (b && true) ≡ b
and_true true = refl
and_true false = refl

-- the last part is this one where there are no others, and of the others none ends
pub last_of : (all this others over : Bool) → this ≡ over → others ≡ false → (if all then this else others) ≡ (over && all)
last_of true this others over e none = e ∙ sym (and_true over)
last_of false this others over e none = none ∙ sym (and_right over false refl)

-- ---- facts that hang on a test

module _ (b : Bool) (P Q : Type 0) where
  pub at_true : b ≡ true → P → MatchBool b P Q
  at_true e h = let M : Bool → Type 0 = λ x. MatchBool x P Q in subst M (sym e) h

  pub at_false : b ≡ false → Q → MatchBool b P Q
  at_false e h = let M : Bool → Type 0 = λ x. MatchBool x P Q in subst M (sym e) h

  pub of_true : b ≡ true → MatchBool b P Q → P
  of_true e h = let M : Bool → Type 0 = λ x. MatchBool x P Q in subst M e h

  pub of_false : b ≡ false → MatchBool b P Q → Q
  of_false e h = let M : Bool → Type 0 = λ x. MatchBool x P Q in subst M e h
