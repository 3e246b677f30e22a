-- Reasoning by classical logic: cases of what isn't computed, least and greatest numbers, choice among finitely many.
use Rattle.std.proofs.Common.{ℕ, zero, suc, ◌+◌, ◌<◌, ◌≤◌, ◌⊎◌, inl, inr, subst, arith}
use Rattle.std.proofs.lemmas.Bool.{cases_lt}
use Rattle.filc_laws.specs.Classically.{Classically}

pub sure : {A : Type 0} → A → Classically A
sure a = λ none. none a

-- one step after the other
pub next : {A B : Type 0} → Classically A → (A → Classically B) → Classically B
next p step = λ none. p (λ a. step a none)

-- what follows from it
pub so : {A B : Type 0} → Classically A → (A → B) → Classically B
so p step = λ none. p (λ a. none (step a))

-- a statement or its contrary
pub decided : (A : Type 0) → Classically (A ⊎ (A → ⊥))
decided A = λ none. none (inr (λ a. none (inl a)))

-- by cases of a statement
pub by_cases : {B : Type 0} (A : Type 0) → (A → Classically B) → ((A → ⊥) → Classically B) → Classically B
by_cases A holds lacks = λ none. lacks (λ a. holds a none) none

-- ---- numbers

-- the least number with a property
pub record Least (P : ℕ → Type 0) : Type 0 where
  pub at : ℕ
  pub has : P at
  pub lesser : (k : ℕ) → k < at → P k → ⊥

none_below : (P : ℕ → Type 0) → (Least P → ⊥) → (n k : ℕ) → k < n → P k → ⊥
none_below P none zero k less p = omega (arith, less)
none_below P none (suc n) k less p = none (record { at = k; has = p; lesser = λ j below. none_below P none n j (omega (arith, less, below)) })

pub least : (P : ℕ → Type 0) (n : ℕ) → P n → Classically (Least P)
least P n p = λ none. none_below P none (suc n) n (omega arith) p

-- a number up to a bound that has a property, which the next one lacks, or which is the bound
pub record Greatest (P : ℕ → Type 0) (most : ℕ) : Type 0 where
  pub at : ℕ
  pub within : at ≤ most
  pub has : P at
  pub past : at < most → P (at + 1) → ⊥

climb : (P : ℕ → Type 0) (most : ℕ) → P 0 → (Greatest P most → ⊥) → (k : ℕ) → k ≤ most → Classically (P k)
climb P most start none zero within = sure start
climb P most start none (suc k) within =
    next (climb P most start none k (omega (arith, within)))
    (λ p. λ lacks. none (record { at = k; within = omega (arith, within); has = p; past = λ less more. lacks (subst P (omega arith) more) }))

pub greatest : (P : ℕ → Type 0) (most : ℕ) → P 0 → Classically (Greatest P most)
greatest P most start = λ none.
    climb P most start none most (omega arith) (λ p. none (record { at = most; within = omega arith; has = p; past = λ less more. omega (arith, less) }))

-- what holds of each number below a bound holds of all at once
pub all_below : (P : ℕ → Type 0) (n : ℕ) → ((k : ℕ) → k < n → Classically (P k)) → Classically ((k : ℕ) → k < n → P k)
all_below P zero each = sure (λ k less. absurd (omega (arith, less)))
all_below P (suc n) each =
    next (all_below P n (λ k less. each k (omega (arith, less))))
    (λ before. so (each n (omega arith)) (λ here k less. elim (cases_lt k n) [
      | inl below ↦ before k below
      | inr most ↦ subst P (omega (arith, less, most)) here
    ]))

-- a property holds of all numbers below a bound, or there is a first number that lacks it
abbrev pub IsJudgedBelow : (ℕ → Type 0) → ℕ → Type 0
IsJudgedBelow P n = ((k : ℕ) → k < n → P k) ⊎ ((k : ℕ) × (k < n) × (P k → ⊥) × ((j : ℕ) → j < k → P j))

one_more : (P : ℕ → Type 0) (n : ℕ) → ((k : ℕ) → k < n → P k) → P n → (k : ℕ) → k < suc n → P k
one_more P n before here k less = elim (cases_lt k n) [ inl below ↦ before k below | inr most ↦ subst P (omega (arith, less, most)) here ]

judge_more : (P : ℕ → Type 0) (n : ℕ) → IsJudgedBelow P n → Classically (IsJudgedBelow P (suc n))
judge_more P n (inl before) = by_cases (P n) (λ here. sure (inl (one_more P n before here))) (λ lacks. sure (inr (n, omega arith, lacks, before)))
judge_more P n (inr (k, less, lacks, before)) = sure (inr (k, omega (arith, less), lacks, before))

pub all_or_first : (P : ℕ → Type 0) (n : ℕ) → Classically (IsJudgedBelow P n)
all_or_first P zero = sure (inl (λ k less. absurd (omega (arith, less))))
all_or_first P (suc n) = next (all_or_first P n) (judge_more P n)
