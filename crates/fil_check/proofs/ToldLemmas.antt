-- The weight that is told: only the components up to one count for it, and it ends at 2 ^ 64 - 1.
use Rattle.std.proofs.Common.{◌≡◌, ℕ, zero, suc, ◌+◌, ◌-◌, ◌^◌, ◌≤◌, ◌<◌, min, get_or, take, List, [], ◌∷◌, length, reverse, slice_get, Contains, Some, option_map, refl, sym, ap, subst, ◌∙◌, arith}
use Rattle.std.proofs.lemmas.List.{reverse-append, take_all}
use Rattle.std.proofs.lemmas.Option.{get_or_from_slice_get, slice_get-get_or, slice_get-map, slice_get_within}
use Rattle.fil_ast.specs.Naming.{component_names}
use Rattle.fil_ast.specs.Rules.{KeepsRules, all_rules}
use Rattle.fil_ast.specs.Tree.{Component, Design}
use Rattle.fil_ast.specs.Weight.{saturated, told_weight, weight_of}
use Rattle.fil_check.specs.inside.Weights.{AreWeights, capped, weight_among}
use Rattle.fil_place.proofs.ComponentLemmas.{new_names}
use Rattle.fil_check.proofs.WeightLemmas.{weight_later}
use Rattle.fil_share.proofs.ListLemmas.{Contains-at, take_next}

-- an element among the first ones
get-taken : {X : Type 0} (n : ℕ) (xs : List X) (k : ℕ) → k < n → slice_get (take n xs) k ≡ slice_get xs k
get-taken zero xs k below = absurd (omega arith)
get-taken (suc n) [] k below = refl
get-taken (suc n) (x ∷ xs) zero below = refl
get-taken (suc n) (x ∷ xs) (suc k) below = get-taken n xs k (omega arith)

module _ (comps : Design) (keeps : KeepsRules all_rules comps) (n : ℕ) (c : Component) (at : slice_get comps n ≡ Some c) where
  -- a later component has another name
  apart : (k : ℕ) (later : Component) → n < k → slice_get comps k ≡ Some later → later.name ≡ c.name → ⊥
  apart k later after there same =
      let named : slice_get (component_names (take k comps)) n ≡ Some c.name =
      slice_get-map (λ (d : Component). d.name) (take k comps) n ∙ ap (option_map (λ (d : Component). d.name)) (get-taken k comps n after ∙ at) in
      (new_names (take k comps) later (keeps k later there)).new
      (subst (Contains (component_names (take k comps))) (sym same) (Contains-at (component_names (take k comps)) n c.name named))

  -- one more component after it leaves its weight the same
  one_more : (k : ℕ) → n < k → k < length comps → weight_of (reverse (take (k + 1) comps)) c.name ≡ weight_of (reverse (take k comps)) c.name
  one_more k after within =
      let later = get_or comps k c in
      let there : slice_get comps k ≡ Some later = slice_get-get_or comps k c within in
      ap (λ (cs : Design). weight_of (reverse cs) c.name) (take_next comps k later there)
      ∙ ap (λ (cs : Design). weight_of cs c.name) (reverse-append (take k comps) (later ∷ []))
      ∙ weight_later later (reverse (take k comps)) c.name (apart k later after there)

  so_far : (k : ℕ) → n + k + 1 ≤ length comps → weight_of (reverse (take (n + k + 1) comps)) c.name ≡ weight_of (reverse (take (n + 1) comps)) c.name
  so_far zero within =
      let e : n + zero + 1 ≡ n + 1 = omega arith in
      ap (λ m. weight_of (reverse (take m comps)) c.name) e
  so_far (suc k) within =
      let e : n + suc k + 1 ≡ n + k + 1 + 1 = omega arith in
      ap (λ m. weight_of (reverse (take m comps)) c.name) e ∙ one_more (n + k + 1) (omega arith) (omega arith) ∙ so_far k (omega arith)

  -- the components after it do not count
  pub up_to_it : weight_of (reverse comps) c.name ≡ weight_of (reverse (take (n + 1) comps)) c.name
  up_to_it =
      let within = slice_get_within comps n c at in
      let k = length comps - suc n in
      let e : n + k + 1 ≡ length comps = omega arith in
      ap (λ (cs : Design). weight_of (reverse cs) c.name) (sym (take_all (n + k + 1) comps (omega arith))) ∙ so_far k (omega arith)

  -- its weight among those up to it
  pub told : (weights : List ℕ) (weight : ℕ) → AreWeights (take (n + 1) comps) weights → weight ≡ get_or weights n weight → min weight (2 ^ 64 - 1) ≡ told_weight comps c
  told weights weight are read =
      let first = take (n + 1) comps in
      let here : slice_get weights n ≡ Some (weight_among first c) =
      ap (λ (ws : List ℕ). slice_get ws n) are ∙ slice_get-map (weight_among first) first n ∙ ap (option_map (weight_among first)) (get-taken (n + 1) comps n (omega arith) ∙ at) in
      let is : weight ≡ capped (weight_of (reverse first) c.name) = read ∙ get_or_from_slice_get weights n (weight_among first c) weight here in
      let capped_more : (m : ℕ) → min (capped m) (2 ^ 64 - 1) ≡ saturated m = λ m. omega arith in
      ap (λ m. min m (2 ^ 64 - 1)) is ∙ capped_more (weight_of (reverse first) c.name) ∙ ap saturated (sym up_to_it)
