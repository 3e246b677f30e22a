-- What holds of each thing wherever it holds of all that the thing reaches, where none reaches its own name and the names are finitely many.
use Rattle.std.proofs.Common.{◌≡◌, ◌≢◌, inl, inr, ℕ, zero, suc, ◌≤◌, List, [], ◌∷◌, length, refl, sym, ap, ◌∙◌, subst, arith}
use Rattle.std.specs.Prelude.{Contains}
use Rattle.hw_names.specs.Name.{Text}
use Rattle.cal_ast.proofs.ListLemmas.{Contains-none, Contains-here, Contains-there, Contains-cases_first}

-- the other texts of a list, where one of them is taken away
without : (xs : List Text) (x : Text) → Contains xs x → (rest : List Text) × (length xs ≡ suc (length rest)) × ((y : Text) → Contains xs y → y ≢ x → Contains rest y)
without [] x has = absurd (Contains-none x has)
without (z ∷ xs) x has = elim (Contains-cases_first z xs x has) [
  | inl same ↦ (xs, refl, λ y there other. elim (Contains-cases_first z xs y there) [ inl here ↦ absurd (other (sym here ∙ same)) | inr later ↦ later ])
  | inr early ↦
      let r = without xs x early in (
        z ∷ r.0,
        ap suc r.1,
        λ y there other. elim (Contains-cases_first z xs y there) [
          | inl here ↦ subst (λ (w : Text). Contains (z ∷ r.0) w) here (Contains-here z r.0)
          | inr later ↦ Contains-there z r.0 y (r.2 y later other)
        ],
      )
]

module _ {X : Type 0} (key : X → Text) (Reach : X → X → Type 0) (on : (x y z : X) → Reach x y → Reach y z → Reach x z) (apart : (x y : X) → Reach x y → key x ≢ key y)
    (P : X → Type 0) (step : (x : X) → ((y : X) → Reach x y → P y) → P x) where
  -- by the number of names that can be reached
  by_names : (n : ℕ) (names : List Text) → length names ≤ n → (x : X) → ((y : X) → Reach x y → Contains names (key y)) → P x
  by_names zero names few x within = step x (λ y reaches. let w = within y reaches in absurd (omega (arith, few, w.1)))
  by_names (suc n) names few x within = step x (λ y reaches.
      let r = without names (key y) (within y reaches) in
      by_names n r.0 (omega (arith, few, r.1)) y (λ z more. r.2 (key z) (within z (on x y z reaches more)) (λ same. apart y z more (sym same))))

  pub by_reach : (names : List Text) (x : X) → ((y : X) → Reach x y → Contains names (key y)) → P x
  by_reach names x within = by_names (length names) names (omega arith) x within
