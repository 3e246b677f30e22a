-- Marks of a component and of those that are inside it or that it is inside of, one after another.
use Rattle.std.proofs.Common.{◌≡◌, ◌⊎◌, ◌↔◌, inl, inr, ℕ, ◌+◌, ◌<◌, ◌≤◌, Bool, true, false, List, length, get_or, set, replicate, Contains, sym, ap, ◌∙◌, get_or-set_same, get_or-set_other, length-set, arith}
use Rattle.std.proofs.lemmas.Bool.{cases_eq, cases_lt}
use Rattle.std.proofs.lemmas.List.{get_or_default, get_or-replicate, get_or_past, length-replicate}
use Rattle.hw_graph.specs.Graph.{HasRead, Reaches}
use Rattle.cal_ast.specs.Tree.{Design}
use Rattle.cal_place.specs.Holders.{AreHolders, AreMarks}
use Rattle.cal_place.specs.Nesting.{HasPart}
use Rattle.cal_place.proofs.HolderLemmas.{are_marked, holder_inside, inside_holder}

-- the component has a mark, so have the first k that are reached, and no others
pub record AreMarkedSoFar (number : ℕ) (reached : List ℕ) (k count : ℕ) (marks : List Bool) : Type 0 where
  pub sized : length marks ≡ count
  pub from : (m : ℕ) → get_or marks m false ≡ true → (m ≡ number) ⊎ ((i : ℕ) × (i < k) × (get_or reached i 0 ≡ m))
  pub own : get_or marks number false ≡ true
  pub each : (i : ℕ) → i < k → get_or marks (get_or reached i 0) false ≡ true

-- a mark stays, and is there where it was put
mark_put : (marks : List Bool) (h m : ℕ) → h < length marks → (m ≡ h) ⊎ (get_or marks m false ≡ true) → get_or (set marks h true) m false ≡ true
mark_put marks h m within (inl same) = ap (λ n. get_or (set marks h true) n false) same ∙ get_or-set_same marks h true false within
mark_put marks h m within (inr was) =
    elim (cases_eq m h) [
      | inl same ↦ ap (λ n. get_or (set marks h true) n false) same ∙ get_or-set_same marks h true false within
      | inr other ↦ get_or-set_other marks h m true false other ∙ was
    ]

mark_was : (marks : List Bool) (h m : ℕ) → get_or (set marks h true) m false ≡ true → (m ≡ h) ⊎ (get_or marks m false ≡ true)
mark_was marks h m now =
    elim (cases_eq m h) [
      | inl same ↦ inl same
      | inr other ↦ inr (sym (get_or-set_other marks h m true false other) ∙ now)
    ]

pub marked_start : (number count : ℕ) (reached : List ℕ) (marks : List Bool) → number < count → marks ≡ set (replicate count false) number true → AreMarkedSoFar number reached 0 count marks
marked_start number count reached marks within is =
    let none = replicate count false in
    let counted : length none ≡ count = length-replicate count false in
    record {
      sized = ap length is ∙ length-set none number true ∙ counted;
      from = λ m mark. elim (mark_was none number m (ap (λ (l : List Bool). get_or l m false) (sym is) ∙ mark)) [
        | inl same ↦ inl same
        | inr was ↦ absurd (no_mark count m was)
      ];
      own = ap (λ (l : List Bool). get_or l number false) is ∙ get_or-set_same none number true false (omega (arith, counted));
      each = λ i less. absurd (omega arith);
    }
  where
    no_mark : (n m : ℕ) → get_or (replicate n false) m false ≡ true → ⊥
    no_mark n m mark = elim (cases_lt m n) [
      | inl less ↦ (let e = get_or-replicate n m false false less in cc)
      | inr past ↦ (let e = get_or_past (replicate n false) m false (omega (arith, length-replicate n false)) in cc)
    ]

pub marked_more : (number count k : ℕ) (reached : List ℕ) (old new : List Bool) → get_or reached k 0 < count → new ≡ set old (get_or reached k 0) true → AreMarkedSoFar number reached k count old → AreMarkedSoFar number reached (k + 1) count new
marked_more number count k reached old new within is so_far =
    let h = get_or reached k 0 in
    let below : h < length old = omega (arith, so_far.sized) in
    let now : (m : ℕ) → (m ≡ h) ⊎ (get_or old m false ≡ true) → get_or new m false ≡ true = λ m was. ap (λ (l : List Bool). get_or l m false) is ∙ mark_put old h m below was in
    record {
      sized = ap length is ∙ length-set old h true ∙ so_far.sized;
      from = λ m mark. elim (mark_was old h m (ap (λ (l : List Bool). get_or l m false) (sym is) ∙ mark)) [
        | inl same ↦ inr (k, omega arith, sym same)
        | inr was ↦ elim (so_far.from m was) [
          | inl own ↦ inl own
          | inr r ↦ inr (r.0, omega (arith, r.1), r.2)
        ]
      ];
      own = now number (inr so_far.own);
      each = λ i less. elim (cases_lt i k) [
        | inl earlier ↦ now (get_or reached i 0) (inr (so_far.each i earlier))
        | inr here ↦ (let same : i ≡ k = omega arith in now (get_or reached i 0) (inl (ap (λ j. get_or reached j 0) same)))
      ];
    }

pub marks_told : (number count k : ℕ) (reached : List ℕ) (marks : List Bool) → length reached ≤ k → k ≤ length reached → AreMarkedSoFar number reached k count marks → AreMarks number reached marks
marks_told number count k reached marks end no_more so_far m = (to, from)
  where
    to : get_or marks m false ≡ true → (m ≡ number) ⊎ Contains reached m
    to mark = elim (so_far.from m mark) [
      | inl same ↦ inl same
      | inr r ↦
          let less : r.0 < length reached = omega (arith, r.1) in
          inr (r.0, less, get_or_default reached r.0 m 0 less ∙ r.2)
    ]

    from : (m ≡ number) ⊎ Contains reached m → get_or marks m false ≡ true
    from (inl same) = ap (λ n. get_or marks n false) same ∙ so_far.own
    from (inr has) =
        let at : get_or reached has.0 0 ≡ m = get_or_default reached has.0 0 m has.1 ∙ has.2 in
        ap (λ n. get_or marks n false) (sym at) ∙ so_far.each has.0 (omega (arith, has.1))

-- marks of those that are reached among holders
module _ (design : Design) (holders : List (List ℕ)) (are : (n m : ℕ) → HasRead holders m n ↔ HasPart design n m) where
  pub holders_told : (number : ℕ) (reached : List ℕ) (marks : List Bool) → ((port : ℕ) → Contains reached port ↔ Reaches holders number port) → AreMarks number reached marks → AreHolders design number marks
  holders_told number reached marks reach marked =
      are_marked design number marks
      (λ m within mark. elim ((marked m).0 mark) [
        | inl same ↦ inl same
        | inr has ↦ inr (holder_inside design holders are number m ((reach m).0 has))
      ])
      (λ m within there. (marked m).1 (elim there [
        | inl same ↦ inl same
        | inr inside ↦ inr ((reach m).1 (inside_holder design holders are m number inside))
      ]))
