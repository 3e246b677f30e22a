-- Walks from number to number, and walks that leave out the numbers that are not below a count.
use Rattle.std.proofs.Common.{◌≡◌, ◌⊎◌, inl, inr, ℕ, ◌<◌, ◌≤◌, Bool, true, false, List, [], ◌∷◌, refl, sym, ap, subst, ◌∙◌, arith}
use Rattle.std.specs.Prelude.{filter}
use Rattle.std.proofs.lemmas.Bool.{cases_lt}
use Rattle.std.proofs.lemmas.Bool.Decides.{Decides-ltb}
use Rattle.hw_cells.specs.Cells.{is_below}

-- from the number on each leads to the next
abbrev pub Walk : (ℕ → ℕ → Type 0) → ℕ → List ℕ → Type 0
Walk R from [] = Unit {0}
Walk R from (to ∷ rest) = R from to × Walk R to rest

-- the one leads to the other, directly or through others
pub data Way {X : Type 0} (R : X → X → Type 0) : X → X → Type 0 where
  One : (from to : X) → R from to → Way R from to
  More : (from next to : X) → R from next → Way R next to → Way R from to

pub walk_over : (R S : ℕ → ℕ → Type 0) → ((x y : ℕ) → R x y → S x y) → (x : ℕ) (ys : List ℕ) → Walk R x ys → Walk S x ys
walk_over R S each x [] walk = tt
walk_over R S each x (y ∷ ys) walk = (each x y walk.0, walk_over R S each y ys walk.1)

pub way_on : {X : Type 0} (R : X → X → Type 0) (x y z : X) → Way R x y → Way R y z → Way R x z
way_on R x y z (One p q step) rest = More p q z step rest
way_on R x y z (More p next q step first) rest = More p next z step (way_on R next q z first rest)

pub way_over : {X : Type 0} (R S : X → X → Type 0) → ((x y : X) → R x y → Way S x y) → (x y : X) → Way R x y → Way S x y
way_over R S each x y (One p q step) = each p q step
way_over R S each x y (More p next q step rest) = way_on S p next q (each p next step) (way_over R S each next q rest)

-- ---- numbers below a count

pub kept : (n y : ℕ) (ys : List ℕ) → y < n → filter (is_below n) (y ∷ ys) ≡ y ∷ filter (is_below n) ys
kept n y ys lt = let e : is_below n y ≡ true = (Decides-ltb y n).1 lt in rw e

not_below : (n y : ℕ) → n ≤ y → (b : Bool) → is_below n y ≡ b → is_below n y ≡ false
not_below n y le true e = let lt = (Decides-ltb y n).0 e in absurd (omega (arith, lt, le))
not_below n y le false e = e

pub left_out : (n y : ℕ) (ys : List ℕ) → n ≤ y → filter (is_below n) (y ∷ ys) ≡ filter (is_below n) ys
left_out n y ys le = let e = not_below n y le (is_below n y) refl in rw e

pub filter_twice : (n m : ℕ) (ys : List ℕ) → n ≤ m → filter (is_below n) (filter (is_below m) ys) ≡ filter (is_below n) ys
filter_twice n m [] le = refl
filter_twice n m (y ∷ ys) le = elim (cases_lt y n) [
  | inl lt ↦
      ap (filter (is_below n)) (kept m y ys (omega (arith, lt, le))) ∙ kept n y (filter (is_below m) ys) lt ∙ ap (λ (l : List ℕ). y ∷ l) (filter_twice n m ys le) ∙ sym (kept n y ys lt)
  | inr past ↦ elim (cases_lt y m) [
    | inl lt ↦ ap (filter (is_below n)) (kept m y ys lt) ∙ left_out n y (filter (is_below m) ys) past ∙ filter_twice n m ys le ∙ sym (left_out n y ys past)
    | inr far ↦ ap (filter (is_below n)) (left_out m y ys far) ∙ filter_twice n m ys le ∙ sym (left_out n y ys past)
  ]
]

-- ---- what leads as another does, but for the numbers that are not below a count

pub record Shortens (n : ℕ) (A B : ℕ → ℕ → Type 0) : Type 0 where
  pub walks : (x : ℕ) (ys : List ℕ) → x < n → Walk A x ys → Walk B x (filter (is_below n) ys)
  pub back : (x y : ℕ) → B x y → Way A x y

-- a walk, where it is known how a number comes from the last one below the count
module _ (n : ℕ) (A B From : ℕ → ℕ → Type 0) (start : (x : ℕ) → x < n → From x x) (next : (last x y : ℕ) → From last x → A x y → ((y < n) × B last y) ⊎ ((n ≤ y) × From last y)) where
  pub shorten : (last x : ℕ) (ys : List ℕ) → From last x → Walk A x ys → Walk B last (filter (is_below n) ys)
  shorten last x [] from walk = tt
  shorten last x (y ∷ ys) from walk = elim (next last x y from walk.0) [
    | inl low ↦ subst (Walk B last) (sym (kept n y ys low.0)) (low.1, shorten y y ys (start y low.0) walk.1)
    | inr high ↦ subst (Walk B last) (sym (left_out n y ys high.0)) (shorten last y ys high.1 walk.1)
  ]

-- where all numbers are below the count
pub shortens_same : (n : ℕ) (A : ℕ → ℕ → Type 0) → ((x y : ℕ) → A x y → y < n) → Shortens n A A
shortens_same n A below = record {
  walks = λ x ys lt walk. shorten n A A (λ (last : ℕ) (y : ℕ). last ≡ y) (λ y less. refl) (λ last y z same step. inl (below y z step, subst (λ (k : ℕ). A k z) (sym same) step)) x x ys refl walk;
  back = λ x y step. One x y step;
}

pub shortens_on : (n m : ℕ) (A B C : ℕ → ℕ → Type 0) → n ≤ m → Shortens m A B → Shortens n B C → Shortens n A C
shortens_on n m A B C le first second = record {
  walks = λ x ys lt walk. subst (Walk C x) (filter_twice n m ys le) (second.walks x (filter (is_below m) ys) lt (first.walks x ys (omega (arith, lt, le)) walk));
  back = λ x y step. way_over B A first.back x y (second.back x y step);
}

-- where what leads is put otherwise
pub shortens_like : (n : ℕ) (A C B : ℕ → ℕ → Type 0) → ((x y : ℕ) → C x y → A x y) → ((x y : ℕ) → A x y → C x y) → Shortens n A B → Shortens n C B
shortens_like n A C B to from shortens = record {
  walks = λ x ys lt walk. shortens.walks x ys lt (walk_over C A to x ys walk);
  back = λ x y step. way_over A C (λ p q s. One p q (from p q s)) x y (shortens.back x y step);
}
