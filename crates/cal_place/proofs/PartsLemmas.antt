-- By C1 and C2 no component is a part of itself.
use Rattle.std.proofs.Common.{◌≡◌, inl, inr, ℕ, take, slice_get, Some, refl, sym, ap, subst, ◌∙◌, arith}
use Rattle.std.proofs.lemmas.Option.{same_Some}
use Rattle.cal_ast.proofs.ItemLemmas.{known_cell, signature_item}
use Rattle.cal_ast.proofs.ListLemmas.{place_of}
use Rattle.cal_ast.proofs.LookupLemmas.{part_of-Some}
use Rattle.cal_ast.specs.Items.{TheSignature, items_of}
use Rattle.cal_ast.specs.Naming.{HasNewNames, IsKnownCell, Itself, Involves, Unreserved, component_names}
use Rattle.cal_ast.specs.Rules.{C1, KeepsRules}
use Rattle.cal_ast.specs.Tree.{Component, Design}
use Rattle.cal_place.specs.FirstPlaces.{IsFirst}
use Rattle.cal_place.specs.Nesting.{HasPart, IsInside, IsFirstInside, ByCell, Over}
use Rattle.cal_place.proofs.FoundLemmas.{first_at}
use Rattle.cal_place.proofs.NestLemmas.{inside_reaches}

module _ (design : Design) (keeps : KeepsRules design) where
  -- each component is the first of its name
  pub first_of_name : (n : ℕ) (c : Component) → slice_get design n ≡ Some c → IsFirst (component_names design) c.name n
  first_of_name n c at =
      let i = place_of (items_of c) TheSignature (signature_item c) in
      let names : HasNewNames (take n design) c = keeps n c at i.0 TheSignature i.1 0 C1 (omega arith) in
      (first_at (λ (d : Component). d.name) design n c at).1 names.new

  -- no part leads back
  part_away : (n m : ℕ) (part : HasPart design n m) → Involves design part.c.name part.part → ⊥
  part_away n m part reaches =
      let j = place_of part.c.cells part.cell part.has in
      by (known_cell Unreserved design keeps n part.c part.at j.0 part.cell j.1)
    where
      by : IsKnownCell design part.c part.cell → ⊥
      by (inl is) = let no' = (part_of-Some design part.cell part.part part.made).0 in cc
      by (inr known) =
          let same : known.0 ≡ part.part = same_Some known.0 part.part (sym known.1 ∙ part.made) in
          known.2 (subst (λ d. Involves design part.c.name d) (sym same) reaches)

  pub none_inside : (n : ℕ) → IsInside design n n → ⊥
  none_inside n inside = by n n inside refl
    where
      by : (a b : ℕ) → IsInside design a b → a ≡ b → ⊥
      by a b (ByCell p o part) same =
          let there : slice_get design p ≡ Some part.part = ap (slice_get design) same ∙ part.there in
          let one : part.c ≡ part.part = same_Some part.c part.part (sym part.at ∙ there) in
          part_away p o part (Itself part.part (ap (λ (d : Component). d.name) (sym one)))
      by a b (Over p between o part rest) same =
          let I : ℕ → Type 0 = λ k. IsInside design between k in
          part_away p between part (inside_reaches design part.c.name p (first_of_name p part.c part.at) between part.part part.there (subst I (sym same) rest))

  pub no_loop : (first : ℕ) → IsFirstInside design first → ⊥
  no_loop first inside = none_inside first inside.inside
