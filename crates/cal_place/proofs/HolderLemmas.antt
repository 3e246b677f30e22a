-- Which components a component is inside of, from the order of components or the least that lies on a loop.
use Rattle.std.proofs.Common.{◌≡◌, ◌↔◌, ◌⊎◌, inl, inr, ℕ, ◌<◌, Bool, true, false, List, [], length, get_or, slice_get, Some, sym, ap, subst, ◌∙◌, arith}
use Rattle.std.proofs.lemmas.List.{get_or-take, get_or_default, length-take}
use Rattle.std.proofs.lemmas.Option.{same_Some, slice_get_within}
use Rattle.hw_graph.specs.Graph as graph
use Rattle.hw_graph.specs.Graph.{HasRead, IsLeastCycle, Directly, Through}
use Rattle.hw_graph.proofs.CycleLemmas.{cycle_reaches}
use Rattle.hw_names.specs.Name.{Text}
use Rattle.cal_ast.specs.Naming.{Itself, component_names}
use Rattle.cal_ast.specs.Tree.{Component, Design}
use Rattle.cal_place.specs.inside.Entries.{AreNumerals, IsFirstOnCycle, IsOrderOf}
use Rattle.cal_place.specs.FirstPlaces.{IsFirst}
use Rattle.cal_place.specs.Holders.{AreHolders}
use Rattle.cal_place.specs.Nesting.{ArePartsFirst, HasPart, IsInside, ByCell, Over, ShowsOrder}
use Rattle.cal_place.specs.declared.nesting.PartOrder.{PartOrder}
use Rattle.cal_place.specs.declared.nesting.PartOrder.TheVariants.{Parts, Loop}
use Rattle.cal_place.proofs.NestLemmas.{inside_reaches, reaches_inside}
use Rattle.cal_place.proofs.NumeralLemmas.{at_most}

-- the first port of the least cycle is the least that lies on one
pub first_on_cycle : (reads : List (List ℕ)) (names : List Text) (ports : List ℕ) → AreNumerals (length reads) names → IsLeastCycle reads names ports → IsFirstOnCycle reads (get_or ports 0 0)
first_on_cycle reads names ports are cycle =
    let within : get_or ports 0 0 < length reads = cycle.is_cycle.trail.in_range 0 cycle.is_cycle.some in
    record {
      within = within;
      looped = cycle_reaches reads ports cycle.is_cycle;
      before = λ n less loop.
          let below : n < length reads = omega arith in
          let least = at_most (length reads) names are (get_or ports 0 0) n within below (cycle.least n loop) in
          omega (arith, least, less);
    }

module _ (design : Design) (reads : List (List ℕ)) (are : (n m : ℕ) → HasRead reads n m ↔ HasPart design n m) where
  inside_of : (n m : ℕ) → graph.Reaches reads n m → IsInside design n m
  inside_of n m (Directly p o has) = ByCell p o ((are p o).0 has)
  inside_of n m (Through p next o has rest) = Over p next o ((are p next).0 has) (inside_of next o rest)

  reach_of : (n m : ℕ) → IsInside design n m → graph.Reaches reads n m
  reach_of n m (ByCell p o part) = Directly p o ((are p o).1 part)
  reach_of n m (Over p next o part rest) = Through p next o ((are p next).1 part) (reach_of next o rest)

  pub shows_order : length reads ≡ length design → (order : PartOrder) → IsOrderOf reads order → ShowsOrder design order
  shows_order sized (Parts order) is = record {
    in_range = λ i within. let below = is.in_range i within in omega (arith, below, sized);
    each = λ n within. is.each n (omega (arith, within, sized));
    once = is.once;
    after = λ i m within part. is.after i m within ((are (get_or order.items i 0) m).1 part);
  }
  shows_order sized (Loop first) is = record {
    within = omega (arith, is.within, sized);
    inside = inside_of first first is.looped;
    before = λ n less inside. is.before n less (reach_of n n inside);
  }

-- the same of the graph turned round
module _ (design : Design) (holders : List (List ℕ)) (are : (n m : ℕ) → HasRead holders m n ↔ HasPart design n m) where
  inside_on : (n between m : ℕ) → IsInside design n between → HasPart design between m → IsInside design n m
  inside_on n between m (ByCell p o first) part = Over p o m first (ByCell o m part)
  inside_on n between m (Over p next o first rest) part = Over p next m first (inside_on next o m rest part)

  pub holder_inside : (m n : ℕ) → graph.Reaches holders m n → IsInside design n m
  holder_inside m n (Directly p o has) = ByCell o p ((are o p).0 has)
  holder_inside m n (Through p next o has rest) = inside_on o next p (holder_inside next o rest) ((are next p).0 has)

  holder_on : (m between n : ℕ) → graph.Reaches holders m between → HasRead holders between n → graph.Reaches holders m n
  holder_on m between n (Directly p o first) has = Through p o n first (Directly o n has)
  holder_on m between n (Through p next o first rest) has = Through p next n first (holder_on next o n rest has)

  pub inside_holder : (n m : ℕ) → IsInside design n m → graph.Reaches holders m n
  inside_holder n m (ByCell p o part) = Directly o p ((are p o).1 part)
  inside_holder n m (Over p next o part rest) = holder_on o next p (inside_holder next o rest) ((are p next).1 part)

-- where each component comes after its parts, none is a part of itself
module _ (design : Design) (order : List ℕ) (first : ArePartsFirst design order) where
  part_before : (i m : ℕ) → i < length order → HasPart design (get_or order i 0) m → (j : ℕ) × (j < i) × (get_or order j 0 ≡ m)
  part_before i m within part =
      let has = first.after i m within part in
      let less : has.0 < i = omega (arith, has.1, length-take i order) in
      let in_order : has.0 < length order = omega (arith, less) in
      (has.0, less, get_or_default order has.0 0 m in_order ∙ sym (get_or-take i order has.0 m less) ∙ has.2)

  inside_before : (n m : ℕ) → IsInside design n m → (i : ℕ) → i < length order → get_or order i 0 ≡ n → (j : ℕ) × (j < i) × (get_or order j 0 ≡ m)
  inside_before n m (ByCell p o part) i within at = part_before i o within (subst (λ k. HasPart design k o) (sym at) part)
  inside_before n m (Over p next o part rest) i within at =
      let one = part_before i next within (subst (λ k. HasPart design k next) (sym at) part) in
      let two = inside_before next o rest one.0 (omega (arith, one.1, within)) one.2 in
      (two.0, omega (arith, two.1, one.1), two.2)

  pub none_inside : (n : ℕ) → n < length design → IsInside design n n → ⊥
  none_inside n within inside =
      let has = first.each n within in
      let at : get_or order has.0 0 ≡ n = get_or_default order has.0 0 n has.1 ∙ has.2 in
      let r = inside_before n n inside has.0 has.1 at in
      let same = first.once r.0 has.0 (omega (arith, r.1, has.1)) has.1 (r.2 ∙ sym at) in
      omega (arith, r.1, same)

-- ---- marks

-- no mark stands where the component is not inside itself
pub no_marks : (design : Design) (number : ℕ) (marks : List Bool) → marks ≡ [] → (IsInside design number number → ⊥) → AreHolders design number marks
no_marks design number marks none outside = record {
  marked = λ c part m at first has there. (
    λ mark. let bad : false ≡ true = sym (ap (λ (l : List Bool). get_or l m false) none) ∙ mark in absurd (cc),
    λ reaches. absurd (outside (elim (reaches_inside design c.name number first m part there (part_first m has part there) reaches) [
      | inl same ↦ ByCell number number (subst (HasPart design number) same has)
      | inr inside ↦ Over number m number has inside
    ])),
  );
}
  where
    part_first : (m : ℕ) (has : HasPart design number m) (part : Component) → slice_get design m ≡ Some part → IsFirst (component_names design) part.name m
    part_first m has part there =
        let same : has.part ≡ part = same_Some has.part part (sym has.there ∙ there) in
        subst (λ (p : Component). IsFirst (component_names design) p.name m) same has.first

-- the component and those that it is inside of are marked
pub are_marked : (design : Design) (number : ℕ) (marks : List Bool) → ((m : ℕ) → m < length design → get_or marks m false ≡ true → (m ≡ number) ⊎ IsInside design m number)
    → ((m : ℕ) → m < length design → (m ≡ number) ⊎ IsInside design m number → get_or marks m false ≡ true) → AreHolders design number marks
are_marked design number marks from to = record {
  marked = λ c part m at first has there. (
    λ mark. elim (from m (slice_get_within design m part there) mark) [
      | inl same ↦
          let e : c ≡ part = same_Some c part (sym at ∙ ap (slice_get design) (sym same) ∙ there) in
          Itself part (ap (λ (p : Component). p.name) (sym e))
      | inr inside ↦ inside_reaches design c.name number first m part there inside
    ],
    λ reaches. to m (slice_get_within design m part there) (reaches_inside design c.name number first m part there (part_first m has part there) reaches),
  );
}
  where
    part_first : (m : ℕ) (has : HasPart design number m) (part : Component) → slice_get design m ≡ Some part → IsFirst (component_names design) part.name m
    part_first m has part there =
        let same : has.part ≡ part = same_Some has.part part (sym has.there ∙ there) in
        subst (λ (p : Component). IsFirst (component_names design) p.name m) same has.first
