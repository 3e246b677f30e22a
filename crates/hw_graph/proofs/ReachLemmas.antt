-- Gathering all that a port reads, with a mark for each port that is reached.
use Rattle.std.proofs.Common.{◌≡◌, ℕ, ◌+◌, ◌<◌, ◌≤◌, inl, inr, Bool, true, false, List, [], ◌∷◌, ◌++◌, length, get_or, set, replicate, Some, refl, sym, ap, ◌∙◌, arith, subst, length-set, get_or-set_same, get_or-set_other}
use Rattle.std.specs.Prelude.{Contains, ◌↔◌, slice_get}
use Rattle.std.proofs.lemmas.Bool.{cases_eq, cases_lt}
use Rattle.std.proofs.lemmas.List.{get_or_past, get_or-replicate, length-replicate, length_push}
use Rattle.std.proofs.lemmas.List.Elements.{Contains-append_left, Contains-get_or, Contains-push, Contains-push_cases}
use Rattle.std.proofs.lemmas.Option.{get_or_from_slice_get}
use Rattle.hw_graph.proofs.ComponentLemmas.{read_of}
use Rattle.hw_graph.proofs.PigeonholeLemmas.{at_most}
use Rattle.hw_graph.proofs.SearchLemmas.{contained_at, contains_at, pushed, pushed_last}
use Rattle.hw_graph.proofs.WalkLemmas.{seen_set, seen_stays}
use Rattle.hw_graph.specs.Graph.{HasRead, AreDistinct, Reaches, Directly, Through}
use Rattle.hw_graph.specs.Reach.{AreMarked, HasAdded}
use Rattle.hw_graph.specs.Walk.{is_seen}

none_in : (port : ℕ) → Contains [] port → ⊥
none_in port has = absurd (omega (arith, has.1))

-- ---- marks

-- where no port has a mark
pub no_marks : (marks : List Bool) → ((port : ℕ) → is_seen marks port ≡ true → ⊥) → AreMarked marks []
no_marks marks none = record {
  in_range = λ i lt. absurd (omega (arith, lt));
  once = λ i j lt lt' same. absurd (omega (arith, lt));
  marked = λ port has. absurd (none_in port has);
  others = λ port is. absurd (none port is);
}

pub marked_none : (count : ℕ) → AreMarked (replicate count false) []
marked_none count = no_marks (replicate count false) unmarked
  where
    unmarked : (port : ℕ) → is_seen (replicate count false) port ≡ true → ⊥
    unmarked port is = elim (cases_lt port count) [
      | inl lt ↦ let not : is_seen (replicate count false) port ≡ false = get_or-replicate count port false false lt in absurd (cc)
      | inr past ↦ let not : is_seen (replicate count false) port ≡ false = get_or_past (replicate count false) port false (omega (arith, past, length-replicate count false)) in absurd (cc)
    ]

-- one more port is marked
pub marked_more : (marks : List Bool) (ports : List ℕ) (q : ℕ) → q < length marks → is_seen marks q ≡ false → AreMarked marks ports → AreMarked (set marks q true) (ports ++ q ∷ [])
marked_more marks ports q within unmarked m = record { in_range = in_range; once = once; marked = marked; others = others }
  where
    size : length (ports ++ q ∷ []) ≡ length ports + 1
    size = length_push ports q

    new : (i : ℕ) → i < length ports → get_or ports i 0 ≡ q → ⊥
    new i lt e = let is = m.marked q (contains_at ports i q lt e) in absurd (cc)

    in_range : (i : ℕ) → i < length (ports ++ q ∷ []) → get_or (ports ++ q ∷ []) i 0 < length (set marks q true)
    in_range i lt = elim (cases_lt i (length ports)) [
      | inl before ↦ omega (arith, pushed ports q i before, m.in_range i before, length-set marks q true)
      | inr last ↦ omega (arith, pushed_last ports q i (omega (arith, lt, size, last)), within, length-set marks q true)
    ]

    once : AreDistinct (ports ++ q ∷ [])
    once i j lt lt' same = elim (cases_lt i (length ports)) [
      | inl before ↦ elim (cases_lt j (length ports)) [
        | inl before' ↦ m.once i j before before' (sym (pushed ports q i before) ∙ same ∙ pushed ports q j before')
        | inr last' ↦ absurd (new i before (sym (pushed ports q i before) ∙ same ∙ pushed_last ports q j (omega (arith, lt', size, last'))))
      ]
      | inr last ↦ elim (cases_lt j (length ports)) [
        | inl before' ↦ absurd (new j before' (sym (pushed ports q j before') ∙ sym same ∙ pushed_last ports q i (omega (arith, lt, size, last))))
        | inr last' ↦ omega (arith, lt, lt', last, last', size)
      ]
    ]

    marked : (port : ℕ) → Contains (ports ++ q ∷ []) port → is_seen (set marks q true) port ≡ true
    marked port has = elim (Contains-push_cases ports q port has) [
      | inl before ↦ seen_stays marks q port within (m.marked port before)
      | inr last ↦ ap (is_seen (set marks q true)) (sym last) ∙ seen_set marks q within
    ]

    others : (port : ℕ) → is_seen (set marks q true) port ≡ true → Contains (ports ++ q ∷ []) port
    others port is = elim (cases_eq port q) [
      | inl same ↦ subst (Contains (ports ++ q ∷ [])) (sym same) (Contains-push ports q)
      | inr ne ↦ Contains-append_left ports (q ∷ []) port (m.others port (sym (get_or-set_other marks q port true false ne) ∙ is))
    ]

-- a port with a mark stands in the list from the place k on
abbrev pub StandsFrom : ℕ → List ℕ → ℕ → Type 0
StandsFrom k ports port = (j : ℕ) × (k ≤ j) × (j < length ports) × (get_or ports j 0 ≡ port)

pub unmarked_more : (marks : List Bool) (ports : List ℕ) (k : ℕ) → get_or ports k 0 < length marks → ((port : ℕ) → is_seen marks port ≡ true → StandsFrom k ports port) → (port : ℕ) → is_seen (set marks (get_or ports k 0) false) port ≡ true → StandsFrom (k + 1) ports port
unmarked_more marks ports k within before port is = elim (cases_eq port (get_or ports k 0)) [
  | inl same ↦
      let not : is_seen (set marks (get_or ports k 0) false) port ≡ false = ap (is_seen (set marks (get_or ports k 0) false)) same ∙ get_or-set_same marks (get_or ports k 0) false false within in
      absurd (cc)
  | inr ne ↦
      let r = before port (sym (get_or-set_other marks (get_or ports k 0) port false false ne) ∙ is) in
      elim (cases_eq r.0 k) [
        | inl here ↦ absurd (ne (sym r.3 ∙ ap (λ j. get_or ports j 0) here))
        | inr later ↦ (r.0, omega (arith, r.1, later), r.2, r.3)
      ]
]

-- ---- ports are added

pub added_none : (ports old : List ℕ) → HasAdded 0 ports old old
added_none ports old = record {
  longer = omega arith;
  kept = λ i lt. refl;
  from = λ port has. inl has;
  all = λ i lt. absurd (omega (arith, lt));
}

module _ (k : ℕ) (ports old new : List ℕ) (within : k < length ports) (added : HasAdded k ports old new) where
  -- the next port was there
  pub added_known : Contains new (get_or ports k 0) → HasAdded (k + 1) ports old new
  added_known has = record {
    longer = added.longer;
    kept = added.kept;
    from = added.from;
    all = λ i lt. elim (cases_lt i k) [
      | inl before ↦ added.all i before
      | inr last ↦ let e : i ≡ k = omega (arith, lt, last) in subst (λ j. Contains new (get_or ports j 0)) (sym e) has
    ];
  }

  -- the next port is put last
  pub added_more : HasAdded (k + 1) ports old (new ++ get_or ports k 0 ∷ [])
  added_more = record {
    longer = omega (arith, added.longer, length_push new (get_or ports k 0));
    kept = λ i lt. pushed new (get_or ports k 0) i (omega (arith, lt, added.longer)) ∙ added.kept i lt;
    from = λ port has. elim (Contains-push_cases new (get_or ports k 0) port has) [
      | inl before ↦ added.from port before
      | inr last ↦ inr (subst (Contains ports) last (Contains-get_or ports k 0 within))
    ];
    all = λ i lt. elim (cases_lt i k) [
      | inl before ↦ Contains-append_left new (get_or ports k 0 ∷ []) (get_or ports i 0) (added.all i before)
      | inr last ↦ let e : i ≡ k = omega (arith, lt, last) in subst (λ j. Contains (new ++ get_or ports k 0 ∷ []) (get_or ports j 0)) (sym e) (Contains-push new (get_or ports k 0))
    ];
  }

-- ---- all that a port reads

-- what is read by a port that is reached is reached
pub reach_on : (reads : List (List ℕ)) (port other next : ℕ) → Reaches reads port other → HasRead reads other next → Reaches reads port next
reach_on reads port other next (Directly p o has) read = Through p o next has (Directly o next read)
reach_on reads port other next (Through p via o has rest) read = Through p via next has (reach_on reads via o next rest read)

has_read : (reads : List (List ℕ)) (port : ℕ) (got : List ℕ) → slice_get reads port ≡ Some got → (other : ℕ) → Contains got other → HasRead reads port other
has_read reads port got at other has = subst (λ l. Contains l other) (sym (get_or_from_slice_get reads port got [] at)) has

-- the ports are reached from the start; the reads of the start and of the first of them are among them
pub record IsReaching (reads : List (List ℕ)) (start : ℕ) (marks : List Bool) (reached : List ℕ) (next : ℕ) : Type 0 where
  pub marked : AreMarked marks reached
  pub within : next ≤ length reached
  pub are_reached : (port : ℕ) → Contains reached port → Reaches reads start port
  pub of_start : (port : ℕ) → HasRead reads start port → Contains reached port
  pub of_first : (i port : ℕ) → i < next → HasRead reads (get_or reached i 0) port → Contains reached port

-- a port's reads are among the ports after they were added
added_reads : (reads : List (List ℕ)) (port : ℕ) (got : List ℕ) → slice_get reads port ≡ Some got → (old new : List ℕ) → HasAdded (length got) got old new → (other : ℕ) → HasRead reads port other → Contains new other
added_reads reads port got at old new added other read =
    let has = read_of reads port got at other read in
    subst (Contains new) (contained_at got other has) (added.all has.0 has.1)

pub reaching_start : (reads : List (List ℕ)) (start : ℕ) (got : List ℕ) → slice_get reads start ≡ Some got → (marks : List Bool) (old reached : List ℕ) → old ≡ [] → AreMarked marks reached → HasAdded (length got) got old reached → IsReaching reads start marks reached 0
reaching_start reads start got at marks old reached none marked added = record {
  marked = marked;
  within = omega arith;
  are_reached = λ port has. elim (added.from port has) [
    | inl before ↦ absurd (none_in port (subst (λ ports. Contains ports port) none before))
    | inr read ↦ Directly start port (has_read reads start got at port read)
  ];
  of_start = added_reads reads start got at old reached added;
  of_first = λ i port lt. absurd (omega (arith, lt));
}

module _ (reads : List (List ℕ)) (start : ℕ) (marks : List Bool) (reached : List ℕ) (next : ℕ) (r : IsReaching reads start marks reached next) where
  pub reaching_more : next < length reached → (got : List ℕ) → slice_get reads (get_or reached next 0) ≡ Some got → (marks' : List Bool) (reached' : List ℕ) → AreMarked marks' reached' → HasAdded (length got) got reached reached' → IsReaching reads start marks' reached' (next + 1)
  reaching_more lt got at marks' reached' marked added = record {
    marked = marked;
    within = omega (arith, lt, added.longer);
    are_reached = λ port has. elim (added.from port has) [
      | inl before ↦ r.are_reached port before
      | inr read ↦ reach_on reads start (get_or reached next 0) port (r.are_reached (get_or reached next 0) (contains_at reached next (get_or reached next 0) lt refl)) (has_read reads (get_or reached next 0) got at port read)
    ];
    of_start = λ port read. stays port (r.of_start port read);
    of_first = of_first;
  }
    where
      stays : (port : ℕ) → Contains reached port → Contains reached' port
      stays port has = contains_at reached' has.0 port (omega (arith, has.1, added.longer)) (added.kept has.0 has.1 ∙ contained_at reached port has)

      of_first : (i port : ℕ) → i < next + 1 → HasRead reads (get_or reached' i 0) port → Contains reached' port
      of_first i port below read =
          let read' : HasRead reads (get_or reached i 0) port = subst (λ p. HasRead reads p port) (added.kept i (omega (arith, below, lt))) read in
          elim (cases_lt i next) [
            | inl before ↦ stays port (r.of_first i port before read')
            | inr last ↦
                let e : i ≡ next = omega (arith, below, last) in
                added_reads reads (get_or reached next 0) got at reached reached' added port (subst (λ k. HasRead reads (get_or reached k 0) port) e read')
          ]

  -- there are at most as many as there are ports
  pub reaching_few : length marks ≡ length reads → length reached ≤ length reads
  reaching_few size = at_most reached (length reads) (λ i lt. omega (arith, r.marked.in_range i lt, size)) r.marked.once

  module _ (over : length reached ≤ next) where
    along : (port other : ℕ) → Contains reached port → Reaches reads port other → Contains reached other
    along port other has (Directly p o read) = reads_on p has o read
      where
        reads_on : (p : ℕ) → Contains reached p → (q : ℕ) → HasRead reads p q → Contains reached q
        reads_on p has q read = r.of_first has.0 q (omega (arith, has.1, over)) (subst (λ x. HasRead reads x q) (sym (contained_at reached p has)) read)
    along port other has (Through p via o read rest) = along via o (r.of_first has.0 via (omega (arith, has.1, over)) (subst (λ x. HasRead reads x via) (sym (contained_at reached p has)) read)) rest

    whole : (port other : ℕ) → port ≡ start → Reaches reads port other → Contains reached other
    whole port other is (Directly p o read) = r.of_start o (subst (λ x. HasRead reads x o) is read)
    whole port other is (Through p via o read rest) = along via o (r.of_start via (subst (λ x. HasRead reads x via) is read)) rest

    pub reaching_over : (port : ℕ) → Contains reached port ↔ Reaches reads start port
    reaching_over port = (r.are_reached port, whole start port refl)
