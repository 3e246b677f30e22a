-- Runs of bytes at the front of a text, and tests.
use Rattle.std.proofs.Common.{◌≡◌, ℕ, suc, ◌+◌, ◌≤◌, Bool, true, false, ◌||◌, ◌&&◌, not, cond, List, [], ◌∷◌, ◌++◌, length, take, drop, refl, sym, ◌∙◌, ◌⊎◌, inl, inr, arith}
use Rattle.std.specs.List.{prefix_len, list_all, list_any}
use Rattle.std.proofs.lemmas.Bool.{false≢true}
use Rattle.std.proofs.lemmas.List.Sums.{prefix_len-le-length}

-- a run at the front is no longer than the text
pub prefix_fits : (p : ℕ → Bool) (xs : List ℕ) → prefix_len p xs ≤ length xs
prefix_fits p xs = prefix_len-le-length p xs

pub clash : {b : Bool} → b ≡ true → b ≡ false → ⊥
clash p q = false≢true (sym q ∙ p)

-- a fact about a test, from one about each of its answers
pub by_test : (P : Bool → Type 0) (b : Bool) → (b ≡ true → P true) → (b ≡ false → P false) → P b
by_test P true t f = t refl
by_test P false t f = f refl

pub and_true : (a b : Bool) → (a && b) ≡ true → (a ≡ true) × (b ≡ true)
and_true true b h = (refl, h)
and_true false b h = absurd (false≢true h)

pub or_true : (a b : Bool) → (a || b) ≡ true → (a ≡ true) ⊎ (b ≡ true)
or_true true b h = inl refl
or_true false b h = inr h

pub not_true : (b : Bool) → not b ≡ true → b ≡ false
not_true true h = absurd (false≢true h)
not_true false h = refl

pub not_false : (b : Bool) → not b ≡ false → b ≡ true
not_false true h = refl
not_false false h = absurd (false≢true (sym h))

-- the bytes of a run pass
pub run_passes : (p : ℕ → Bool) (xs : List ℕ) → list_all p (take (prefix_len p xs) xs) ≡ true
run_passes p [] = refl
run_passes p (x ∷ xs) =
    by_test (λ v. list_all p (take (cond v (1 + prefix_len p xs) 0) (x ∷ xs)) ≡ true) (p x)
    (λ e. let k : 1 + prefix_len p xs ≡ suc (prefix_len p xs) = omega arith in rw (k, e) (run_passes p xs))
    (λ e. refl)

-- no longer bytes at the front pass
pub run_longest : (p : ℕ → Bool) (xs front more : List ℕ) → xs ≡ front ++ more → list_all p front ≡ true → length front ≤ prefix_len p xs
run_longest p xs [] more e h = omega arith
run_longest p [] (c ∷ front) more e h = absurd cc
run_longest p (x ∷ xs) (c ∷ front) more e h =
    let t = and_true (p c) (list_all p front) h in
    let same : x ≡ c = cc in
    let rest : xs ≡ front ++ more = cc in
    let r = run_longest p xs front more rest t.1 in
    let yes : p x ≡ true = rw same t.0 in
    rw yes (omega arith)

-- the text does not go on with a byte that passes
abbrev pub Ends : (ℕ → Bool) → List ℕ → Type 0
Ends p [] = Unit {0}
Ends p (x ∷ xs) = p x ≡ false

-- a run ends where the bytes that pass do
pub run_ends : (p : ℕ → Bool) (xs after : List ℕ) → list_all p xs ≡ true → Ends p after → prefix_len p (xs ++ after) ≡ length xs
run_ends p [] [] h e = refl
run_ends p [] (c ∷ after) h e = rw e refl
run_ends p (x ∷ xs) after h e =
    let t = and_true (p x) (list_all p xs) h in
    let r = run_ends p xs after t.1 e in
    rw (t.0, r) (omega arith)

-- what follows a run
pub run_stops : (p : ℕ → Bool) (xs : List ℕ) → Ends p (drop (prefix_len p xs) xs)
run_stops p [] = tt
run_stops p (x ∷ xs) =
    by_test (λ v. Ends p (drop (cond v (1 + prefix_len p xs) 0) (x ∷ xs))) (p x)
    (λ e. let k : 1 + prefix_len p xs ≡ suc (prefix_len p xs) = omega arith in rw k (run_stops p xs))
    (λ e. e)

pub all_within : (p q : ℕ → Bool) → ((b : ℕ) → p b ≡ true → q b ≡ true) → (xs : List ℕ) → list_all p xs ≡ true → list_all q xs ≡ true
all_within p q w [] h = refl
all_within p q w (x ∷ xs) h = let t = and_true (p x) (list_all p xs) h in rw (w x t.0, all_within p q w xs t.1) refl

-- what is known of each element is known of one that passes a test
pub any_of : {X : Type 0} (p q : X → Bool) (xs : List X) → list_any p xs ≡ true → list_all q xs ≡ true → (x : X) × (p x ≡ true) × (q x ≡ true)
any_of p q [] h a = absurd (false≢true h)
any_of p q (x ∷ xs) h a =
    let t = and_true (q x) (list_all q xs) a in
    elim (or_true (p x) (list_any p xs) h) [
      | inl i ↦ (x, i, t.0)
      | inr i ↦ any_of p q xs i t.1
    ]
