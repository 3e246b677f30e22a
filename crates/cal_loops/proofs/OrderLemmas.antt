-- Levels of components, each after its parts.
use Rattle.std.proofs.Common.{◌≡◌, ◌≢◌, ◌⊎◌, inl, inr, ℕ, ◌+◌, ◌<◌, List, [], ◌∷◌, ◌++◌, Some, None, Contains, length, take, get_or, set, slice_get, sym, ap, subst, subst₂, ◌∙◌, arith}
use Rattle.std.proofs.lemmas.Bool.{cases_eq}
use Rattle.std.proofs.lemmas.List.{length-set, get_or-set_same, get_or-set_other}
use Rattle.std.proofs.lemmas.List.Elements.{Contains-push_cases}
use Rattle.std.proofs.lemmas.Option.{same_Some, slice_get_within, slice_get-get_or, get_or_from_slice_get}
use Rattle.cal_ast.proofs.ListLemmas.{Contains-none}
use Rattle.cal_ast.specs.Tree.{Component, Design}
use Rattle.cal_ast.specs.Wires.{HasNoLoop}
use Rattle.cal_place.specs.Nesting.{ArePartsFirst}
use Rattle.cal_loops.specs.inside.LoopedSoFar.{TellsFirstLooped}
use Rattle.cal_loops.specs.inside.Levels.{ShowsLevels, ShowsPartLevels}
use Rattle.cal_loops.specs.declared.levels.Levels.{Levels}
use Rattle.cal_place.proofs.GraphLemmas.{exists_at}
use Rattle.cal_loops.proofs.LoopedLemmas.{clear_more, in_order, numbers_next}

-- of these components the levels are known
abbrev pub KnowsLevels : Design → List ℕ → List Levels → Type 0
KnowsLevels design judged levels =
    (m : ℕ) (part : Component) (l : Levels) → Contains judged m → slice_get design m ≡ Some part → slice_get levels m ≡ Some l → ShowsLevels design part l

pub levels_none : (design : Design) (levels : List Levels) → KnowsLevels design [] levels
levels_none design levels m part l has at at_l = absurd (Contains-none m has)

-- one component more has levels
levels_more : (design : Design) (judged : List ℕ) (number : ℕ) (c : Component) (levels : List Levels) (own : Levels) → slice_get design number ≡ Some c → number < length levels → ShowsLevels design c own → KnowsLevels design judged levels
    → KnowsLevels design (judged ++ number ∷ []) (set levels number own)
levels_more design judged number c levels own at within here knows m part l has at_m at_l = by (cases_eq m number)
  where
    by : (m ≡ number) ⊎ (m ≢ number) → ShowsLevels design part l
    by (inl same) =
        let l_is : own ≡ l = sym (get_or-set_same levels number own l within) ∙ ap (λ (k : ℕ). get_or (set levels number own) k l) (sym same) ∙ get_or_from_slice_get (set levels number own) m l l at_l in
        let c_is : c ≡ part = same_Some c part (sym at ∙ ap (slice_get design) (sym same) ∙ at_m) in
        subst₂ (λ (x : Component) (y : Levels). ShowsLevels design x y) c_is l_is here
    by (inr apart) =
        let before : Contains judged m = (elim (Contains-push_cases judged number m has) [ inl b ↦ b | inr same ↦ absurd (apart (sym same)) ]) in
        let lt : m < length levels = omega (arith, slice_get_within (set levels number own) m l at_l, length-set levels number own) in
        let old : slice_get levels m ≡ Some l = slice_get-get_or levels m l lt ∙ ap Some (sym (get_or-set_other levels number m own l apart) ∙ get_or_from_slice_get (set levels number own) m l l at_l) in
        knows m part l before at_m old

module _ (design : Design) (order items : List ℕ) (i : ℕ) (same : items ≡ order) (first : ArePartsFirst design order) (lt : i < length items) where
  -- the levels of the parts of a component are known when it is judged
  pub parts_levelled : (levels shown : List Levels) → length levels ≡ length design → KnowsLevels design (take i items) levels → shown ≡ levels → ShowsPartLevels design (get_or items i 0) shown
  parts_levelled levels shown sized knows is =
      let own : ArePartsFirst design items = subst (ArePartsFirst design) (sym same) first in
      let shows : ShowsPartLevels design (get_or items i 0) levels = record {
        all = sized;
        each = λ m part l p at at_l. knows m part l (own.after i m lt p) at at_l;
      } in
      subst (ShowsPartLevels design (get_or items i 0)) (sym is) shows

  pub levels_next : (levels new : List Levels) (own : Levels) → length levels ≡ length design → KnowsLevels design (take i items) levels → ((c : Component) → slice_get design (get_or items i 0) ≡ Some c → ShowsLevels design c own)
      → new ≡ set levels (get_or items i 0) own → KnowsLevels design (take (i + 1) items) new
  levels_next levels new own sized knows judged put =
      let number = get_or items i 0 in
      let in_range = in_order design order items i same first lt in
      let c = exists_at design number in_range in
      let more = levels_more design (take i items) number c.0 levels own c.1 (omega (arith, in_range, sized)) (judged c.0 c.1) knows in
      subst₂ (KnowsLevels design) (numbers_next items i lt) (sym put) more

  pub clear_next : ((c : Component) → slice_get design (get_or items i 0) ≡ Some c → HasNoLoop design c) → TellsFirstLooped design (take i items) None → TellsFirstLooped design (take (i + 1) items) None
  clear_next judged so_far =
      let number = get_or items i 0 in
      let c = exists_at design number (in_order design order items i same first lt) in
      subst (λ (l : List ℕ). TellsFirstLooped design l None) (numbers_next items i lt) (clear_more design (take i items) number c.0 c.1 None (judged c.0 c.1) so_far)
