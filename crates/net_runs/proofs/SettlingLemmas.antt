-- Values that are worked out again and again, each from those that it reads, come to rest: where nothing reads itself, however far off.
use Rattle.std.proofs.Common.{◌≡◌, ◌≢◌, inl, inr, ℕ, zero, suc, ◌≤◌, List, [], ◌∷◌, length, refl, sym, ap, ◌∙◌, arith, subst}
use Rattle.hw_names.specs.Name.{Text}
use Rattle.hw_prims.specs.Row.{Row}
use Rattle.hw_graph.proofs.MemberLemmas.{In}

-- the one reads the other, at once or through others
pub data Reaches (Reads : Text → Text → Type 0) : Text → Text → Type 0 where
  AtOnce : (x y : Text) → Reads x y → Reaches Reads x y
  Over : (x y z : Text) → Reads x y → Reaches Reads y z → Reaches Reads x z

pub reach_on : (Reads : Text → Text → Type 0) (x y z : Text) → Reaches Reads x y → Reaches Reads y z → Reaches Reads x z
reach_on Reads x y z (AtOnce p q reads) more = Over p q z reads more
reach_on Reads x y z (Over p between q reads rest) more = Over p between z reads (reach_on Reads between q z rest more)

-- the other texts of a list, where one of them is taken away
without : (xs : List Text) (x : Text) → In xs x → (rest : List Text) × (length xs ≡ suc (length rest)) × ((y : Text) → In xs y → y ≢ x → In rest y)
without [] x has = absurd has
without (z ∷ xs) x (inl same) = (xs, refl, λ y there other. elim there [ inl here ↦ absurd (other (sym here ∙ same)) | inr later ↦ later ])
without (z ∷ xs) x (inr has) =
    let r = without xs x has in
    (z ∷ r.0, ap suc r.1, λ y there other. elim there [ inl here ↦ inl here | inr later ↦ inr (r.2 y later other) ])

module _ (ports : List Text) (Reads : Text → Text → Type 0) (known : (x y : Text) → Reads x y → In ports y) (no_loop : (x : Text) → Reaches Reads x x → ⊥)
    (value : Row → Text → ℕ) (local : (row other : Row) (x : Text) → ((y : Text) → Reads x y → row y ≡ other y) → value row x ≡ value other x) where
  -- the values after so many times
  abbrev pub settling : ℕ → Row
  settling zero = λ x. 0
  settling (suc k) = value (settling k)

  reached_known : (x y : Text) → Reaches Reads x y → In ports y
  reached_known x y (AtOnce p q reads) = known p q reads
  reached_known x y (Over p between q reads rest) = reached_known between q rest

  -- a value rests after as many times as there are names that it reaches
  rests : (n : ℕ) (names : List Text) → length names ≤ n → (x : Text) → ((y : Text) → Reaches Reads x y → In names y) → (k : ℕ) → n ≤ k → settling (suc k) x ≡ settling (suc (suc k)) x
  rests zero [] few x within k late = local (settling k) (settling (suc k)) x (λ y reads. absurd (within y (AtOnce x y reads)))
  rests zero (z ∷ names) few x within k late = absurd (omega (arith, few))
  rests (suc n) names few x within zero late = absurd (omega (arith, late))
  rests (suc n) names few x within (suc k) late = local (settling (suc k)) (settling (suc (suc k))) x (λ y reads.
      let r = without names y (within y (AtOnce x y reads)) in
      rests n r.0 (omega (arith, few, r.1)) y
      (λ z more. r.2 z (within z (Over x y z reads more)) (λ same. no_loop y (subst (λ (w : Text). Reaches Reads y w) same more)))
      k (omega (arith, late)))

  -- the values at rest
  abbrev pub rest : Row
  rest = settling (suc (length ports))

  pub rest_is : (x : Text) → rest x ≡ value rest x
  rest_is x = rests (length ports) ports (omega arith) x (λ y reaches. reached_known x y reaches) (length ports) (omega arith)
