-- The order of the keys of uses, and what an insertion changes.
use Rattle.std.proofs.Common.{◌≡◌, ◌≤◌, ◌<◌, ◌⊎◌, inl, inr, ℕ, false, refl, sym, ap, ap₂, subst, ◌∙◌, arith}
use Rattle.std.specs.declared.cmp.Ordering.{Ordering}
use Rattle.std.specs.declared.cmp.Ordering.TheVariants.{Less, Equal, Greater}
use Rattle.std.specs.Ordering.{MatchOrdering, is_gt, is_lt, nat_cmp, ordering_then}
use Rattle.std.proofs.lemmas.Cmp.{ranked}
use Rattle.std.proofs.lemmas.Map.Keys.{ge_from_not_lt, le_from_not_gt}
use Rattle.fil_place.specs.inside.StoredUses.{Key, key_cmp}

less_told : (x y : ℕ) → nat_cmp x y ≡ Less → x < y
less_told x y e = subst (λ (o : Ordering). MatchOrdering o (x < y) (x ≡ y) (y < x)) e (ranked x y (nat_cmp x y) refl)

equal_told : (x y : ℕ) → nat_cmp x y ≡ Equal → x ≡ y
equal_told x y e = subst (λ (o : Ordering). MatchOrdering o (x < y) (x ≡ y) (y < x)) e (ranked x y (nat_cmp x y) refl)

greater_told : (x y : ℕ) → nat_cmp x y ≡ Greater → y < x
greater_told x y e = subst (λ (o : Ordering). MatchOrdering o (x < y) (x ≡ y) (y < x)) e (ranked x y (nat_cmp x y) refl)

same_cmp : (x : ℕ) → nat_cmp x x ≡ Equal
same_cmp x = by (nat_cmp x x) refl
  where
    by : (o : Ordering) → nat_cmp x x ≡ o → nat_cmp x x ≡ Equal
    by Less e = let bad = less_told x x e in absurd (omega arith)
    by Equal e = e
    by Greater e = let bad = greater_told x x e in absurd (omega arith)

not_gt : (x y : ℕ) → x ≤ y → is_gt (nat_cmp x y) ≡ false
not_gt x y le = by (nat_cmp x y) refl
  where
    by : (o : Ordering) → nat_cmp x y ≡ o → is_gt (nat_cmp x y) ≡ false
    by Less e = ap is_gt e
    by Equal e = ap is_gt e
    by Greater e = let bad = greater_told x y e in absurd (omega arith)

-- the first key is the second or before it
abbrev pub ComesBy : Key → Key → Type 0
ComesBy a b = (a.0 < b.0) ⊎ ((a.0 ≡ b.0) × ((a.1 < b.1) ⊎ ((a.1 ≡ b.1) × (a.2 ≤ b.2))))

pub comes_by : (a b : Key) → is_gt (key_cmp a b) ≡ false → ComesBy a b
comes_by a b e = by (nat_cmp a.0 b.0) (nat_cmp a.1 b.1) refl refl e
  where
    by : (o p : Ordering) → nat_cmp a.0 b.0 ≡ o → nat_cmp a.1 b.1 ≡ p → is_gt (ordering_then (ordering_then o p) (nat_cmp a.2 b.2)) ≡ false → ComesBy a b
    by Less p first second e = inl (less_told a.0 b.0 first)
    by Equal Less first second e = inr (equal_told a.0 b.0 first, inl (less_told a.1 b.1 second))
    by Equal Equal first second e = inr (equal_told a.0 b.0 first, inr (equal_told a.1 b.1 second, le_from_not_gt a.2 b.2 e))
    by Equal Greater first second e = absurd (cc)
    by Greater p first second e = absurd (cc)

pub comes_back : (a b : Key) → is_lt (key_cmp a b) ≡ false → ComesBy b a
comes_back a b e = by (nat_cmp a.0 b.0) (nat_cmp a.1 b.1) refl refl e
  where
    by : (o p : Ordering) → nat_cmp a.0 b.0 ≡ o → nat_cmp a.1 b.1 ≡ p → is_lt (ordering_then (ordering_then o p) (nat_cmp a.2 b.2)) ≡ false → ComesBy b a
    by Less p first second e = absurd (cc)
    by Equal Less first second e = absurd (cc)
    by Equal Equal first second e = inr (sym (equal_told a.0 b.0 first), inr (sym (equal_told a.1 b.1 second), ge_from_not_lt a.2 b.2 e))
    by Equal Greater first second e = inr (sym (equal_told a.0 b.0 first), inl (greater_told a.1 b.1 second))
    by Greater p first second e = inl (greater_told a.0 b.0 first)

-- keys of one event
pub in_order : (i k a b : ℕ) → a ≤ b → is_gt (key_cmp (i, k, a) (i, k, b)) ≡ false
in_order i k a b le =
    ap₂ (λ (o p : Ordering). is_gt (ordering_then (ordering_then o p) (nat_cmp a b))) (same_cmp i) (same_cmp k) ∙ not_gt a b le

pub starts_by : (i k a b : ℕ) → ComesBy (i, k, a) (i, k, b) → a ≤ b
starts_by i k a b (inl less) = absurd (omega arith)
starts_by i k a b (inr (same, inl less)) = absurd (omega arith)
starts_by i k a b (inr (same, inr (also, le))) = le

-- a key between two of one event is of that event
pub between : (i k a b : ℕ) (key : Key) → ComesBy (i, k, a) key → ComesBy key (i, k, b) → (key.0 ≡ i) × (key.1 ≡ k)
between i k a b key (inl less) (inl other) = absurd (omega arith)
between i k a b key (inl less) (inr (same, other)) = absurd (omega arith)
between i k a b key (inr (same, low)) (inl other) = absurd (omega arith)
between i k a b key (inr (same, inl less)) (inr (again, inl other)) = absurd (omega arith)
between i k a b key (inr (same, inl less)) (inr (again, inr (also, other))) = absurd (omega arith)
between i k a b key (inr (same, inr (also, low))) (inr (again, high)) = (sym same, sym also)

pub key_same : (a b : Key) → key_cmp a b ≡ Equal → a ≡ b
key_same a b e =
    let there = comes_by a b (ap is_gt e) in
    let back = comes_back a b (ap is_lt e) in
    by there back
  where
    by : ComesBy a b → ComesBy b a → a ≡ b
    by (inl less) (inl other) = absurd (omega arith)
    by (inl less) (inr (same, other)) = absurd (omega arith)
    by (inr (same, low)) (inl other) = absurd (omega arith)
    by (inr (same, inl less)) (inr (again, inl other)) = absurd (omega arith)
    by (inr (same, inl less)) (inr (again, inr (also, other))) = absurd (omega arith)
    by (inr (same, inr (also, low))) (inr (again, inl other)) = absurd (omega arith)
    by (inr (same, inr (also, low))) (inr (again, inr (too, high))) =
        let third : a.2 ≡ b.2 = omega arith in
        ap₂ (λ (p : ℕ × ℕ) (z : ℕ). (p.0, p.1, z)) (ap₂ (λ (x y : ℕ). (x, y)) same also) third
