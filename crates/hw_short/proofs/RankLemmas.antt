-- Numbers of texts, and the order of the texts.
use Rattle.std.proofs.Common.{◌≡◌, ◌≢◌, ℕ, ◌+◌, ◌<◌, ◌≤◌, inl, inr, true, false, List, ◌++◌, ◌∷◌, [], Vec, Global, Contains, length, map, get_or, refl, sym, ap, subst, subst₂, ◌∙◌, arith}
use Rattle.std.specs.Cmp.{IsStrictWeakOrder}
use Rattle.std.specs.Cmp.Lexicographic.{slice_cmp}
use Rattle.std.specs.List.Sorted.{IsPermutation, IsPartitionedBy}
use Rattle.std.specs.Ordering.{nat_cmp, ordering_reverse, is_lt}
use Rattle.std.specs.declared.cmp.Ordering.{Ordering}
use Rattle.std.specs.declared.cmp.Ordering.TheVariants.{Less, Equal, Greater}
use Rattle.std.proofs.lemmas.Bool.{cases_lt}
use Rattle.std.proofs.lemmas.Cmp.{nat_list_cmp_total}
use Rattle.std.proofs.lemmas.List.{get_or_append_left, get_or_push, get_or-map, length-map}
use Rattle.std.proofs.lemmas.List.Sorted.{Contains-permutation, IsPermutation-map, length_permutation, ranks_by, sorted_far}
use Rattle.hw_names.specs.Name.{Text}
use Rattle.hw_short.specs.inside.Ranks.{AreSorted, HaveRanks, IsRank, TellTexts}

abbrev order : Text → Text → Ordering
order = slice_cmp nat_cmp

abbrev bytes : Vec ℕ Global → Text
bytes t = t.items

-- ---- what orders say

pub lt_less : (o : Ordering) → is_lt o ≡ true → o ≡ Less
lt_less Less e = refl
lt_less Equal e = cc
lt_less Greater e = cc

pub not_lt : (o : Ordering) → is_lt o ≡ false → o ≢ Less
not_lt Less e = λ bad. cc
not_lt Equal e = λ bad. cc
not_lt Greater e = λ bad. cc

neither : (o : Ordering) → o ≢ Less → o ≢ Greater → o ≡ Equal
neither Less a b = absurd (a refl)
neither Equal a b = refl
neither Greater a b = absurd (b refl)

turn : (o p : Ordering) → o ≢ Less → p ≡ ordering_reverse o → p ≢ Greater
turn Less p ne e = absurd (ne refl)
turn Equal p ne e = λ bad. let equal : p ≡ Equal = e in cc
turn Greater p ne e = λ bad. let less : p ≡ Less = e in cc

-- where the one is not less than the other, the other is at most the one
turned : (x y : Text) → order x y ≢ Less → order y x ≢ Greater
turned x y ne = turn (order x y) (order y x) ne (nat_list_cmp_total.antisymm y x)

no_reverse : (o : Ordering) → o ≡ ordering_reverse o → o ≢ Less
no_reverse Less e = λ bad. cc
no_reverse Equal e = λ bad. cc
no_reverse Greater e = λ bad. cc

not_itself : (x : Text) → order x x ≢ Less
not_itself x = no_reverse (order x x) (nat_list_cmp_total.antisymm x x)

up_to_less : (x y z : Text) → order x y ≢ Greater → order y z ≡ Less → order x z ≡ Less
up_to_less x y z le lt = by (order x y) refl
  where
    by : (o : Ordering) → order x y ≡ o → order x z ≡ Less
    by Less e = nat_list_cmp_total.trans x y z e lt
    by Equal e = nat_list_cmp_total.congr x y z e ∙ lt
    by Greater e = absurd (le e)

-- ---- sorted texts

weak : IsStrictWeakOrder (λ (s t : Vec ℕ Global). is_lt (order s.items t.items))
weak = ranks_by nat_list_cmp_total bytes

-- those that are less than a text come first
pub parted : (text : Text) (sorted : List (Vec ℕ Global)) → AreSorted sorted → IsPartitionedBy (λ (t : Vec ℕ Global). is_lt (order t.items text)) sorted
parted text sorted up i j d le within below =
    let x = (get_or sorted i d).items in
    let y = (get_or sorted j d).items in
    let far : is_lt (order y x) ≡ false = sorted_far (λ (s t : Vec ℕ Global). is_lt (order s.items t.items)) weak sorted up i j d le within in
    ap is_lt (up_to_less x y text (turned y x (not_lt (order y x) far)) (lt_less (order y text) below))

-- one text more has its rank
pub ranks_more : (sorted texts : List (Vec ℕ Global)) (ranks new : List ℕ) (i rank : ℕ) (here : Vec ℕ Global) → i < length texts → new ≡ ranks ++ rank ∷ [] → length ranks ≡ i
    → IsRank sorted (get_or texts i here).items rank
    → ((k : ℕ) (d : Vec ℕ Global) → k < i → IsRank sorted (get_or texts k d).items (get_or ranks k 0))
    → (k : ℕ) (d : Vec ℕ Global) → k < i + 1 → IsRank sorted (get_or texts k d).items (get_or new k 0)
ranks_more sorted texts ranks new i rank here within longer size is before k d lt = elim (cases_lt k i) [
  | inl less ↦
      let at : get_or new k 0 ≡ get_or ranks k 0 = ap (λ (l : List ℕ). get_or l k 0) longer ∙ get_or_append_left ranks (rank ∷ []) 0 k (omega (arith, less, size)) in
      subst (IsRank sorted (get_or texts k d).items) (sym at) (before k d less)
  | inr more ↦
      let same : i ≡ k = omega (arith, lt, more) in
      let at : get_or new k 0 ≡ rank = ap (λ (l : List ℕ). get_or l k 0) longer ∙ get_or_push ranks rank 0 k (size ∙ same) in
      let text : (get_or texts i here).items ≡ (get_or texts k d).items = sym (get_or-map bytes texts i here [] within) ∙ ap (λ (m : ℕ). get_or (map bytes texts) m []) same ∙ get_or-map bytes texts k d [] (omega (arith, within, same)) in
      subst (IsRank sorted (get_or texts k d).items) (sym at) (subst (λ (t : Text). IsRank sorted t rank) text is)
]

-- ---- ranks tell the order

module _ (texts copies sorted : List (Vec ℕ Global)) (same : map bytes copies ≡ map bytes texts) (moved : IsPermutation copies sorted) where
  size : length sorted ≡ length texts
  size = length_permutation copies sorted moved ∙ sym (length-map copies bytes) ∙ ap length same ∙ length-map texts bytes

  -- each text stands among the sorted ones
  found : (i : ℕ) (d : Vec ℕ Global) → i < length texts → (k : ℕ) × (k < length sorted) × (get_or sorted k d).items ≡ (get_or texts i d).items
  found i d within =
      let t = (get_or texts i d).items in
      let has : Contains (map bytes texts) t = (i, omega (arith, within, length-map texts bytes), get_or-map bytes texts i d t within) in
      let there = Contains-permutation (map bytes copies) (map bytes sorted) t (IsPermutation-map bytes copies sorted moved) (subst (λ (l : List Text). Contains l t) (sym same) has) in
      let lt : there.0 < length sorted = omega (arith, there.1, length-map sorted bytes) in
      (there.0, lt, sym (get_or-map bytes sorted there.0 d t lt) ∙ there.2)

  -- a text that is there stands from its rank on
  from_rank : (i : ℕ) (d : Vec ℕ Global) (rank : ℕ) (within : i < length texts) → IsRank sorted (get_or texts i d).items rank → rank ≤ (found i d within).0
  from_rank i d rank within is = elim (cases_lt (found i d within).0 rank) [
    | inl less ↦
        let t = (get_or texts i d).items in
        absurd (not_itself t (subst (λ (u : Text). order u t ≡ Less) (found i d within).2 (is.below (found i d within).0 d less)))
    | inr more ↦ more
  ]

  not_less : (i j : ℕ) (d : Vec ℕ Global) (r s : ℕ) → i < length texts → IsRank sorted (get_or texts i d).items r → IsRank sorted (get_or texts j d).items s → s ≤ r → order (get_or texts i d).items (get_or texts j d).items ≢ Less
  not_less i j d r s within is_i is_j le =
      let f = found i d within in
      let from : r ≤ f.0 = from_rank i d r within is_i in
      subst (λ (u : Text). order u (get_or texts j d).items ≢ Less) f.2 (is_j.above f.0 d (omega (arith, from, le)) f.1)

  some : (i : ℕ) → i < length texts → Vec ℕ Global
  some i within = by texts within
    where
      by : (l : List (Vec ℕ Global)) → i < length l → Vec ℕ Global
      by [] lt = absurd (omega (arith, lt))
      by (t ∷ l) lt = t

  pub tell_order : (ranks : List ℕ) → HaveRanks sorted texts ranks → TellTexts (map bytes texts) ranks
  tell_order ranks have = record {
    sized = have.sized ∙ sym (length-map texts bytes);
    few = λ i within.
        let lt = inside i within in
        let d = some i lt in
        let f = found i d lt in
        let from : get_or ranks i 0 ≤ f.0 = from_rank i d (get_or ranks i 0) lt (have.each i d lt) in
        omega (arith, from, f.1, size, length-map texts bytes);
    less = λ i j within within' lt.
        let d = some i (inside i within) in
        let is_i = have.each i d (inside i within) in
        let is_j = have.each j d (inside j within') in
        let r = get_or ranks i 0 in
        let s = (get_or sorted r d).items in
        let at_i = get_or-map bytes texts i d [] (inside i within) in
        let at_j = get_or-map bytes texts j d [] (inside j within') in
        let x = (get_or texts i d).items in
        let le = turned s x (is_i.above r d (omega arith) (omega (arith, lt, is_j.within))) in
        subst₂ (λ (a b : Text). order a b ≡ Less) (sym at_i) (sym at_j) (up_to_less x s (get_or texts j d).items le (is_j.below r d lt));
    same = λ i j within within' e.
        let d = some i (inside i within) in
        let is_i = have.each i d (inside i within) in
        let is_j = have.each j d (inside j within') in
        let x = (get_or texts i d).items in
        let y = (get_or texts j d).items in
        let at_i = get_or-map bytes texts i d [] (inside i within) in
        let at_j = get_or-map bytes texts j d [] (inside j within') in
        let one = not_less i j d (get_or ranks i 0) (get_or ranks j 0) (inside i within) is_i is_j (omega (arith, e)) in
        let two = not_less j i d (get_or ranks j 0) (get_or ranks i 0) (inside j within') is_j is_i (omega (arith, e)) in
        subst₂ (λ (a b : Text). order a b ≡ Equal) (sym at_i) (sym at_j) (neither (order x y) one (turned y x two));
  }
    where
      inside : (i : ℕ) → i < length (map bytes texts) → i < length texts
      inside i within = omega (arith, within, length-map texts bytes)
