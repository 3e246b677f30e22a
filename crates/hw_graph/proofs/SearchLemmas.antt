-- Steps of a search through a graph, depth first.
use Rattle.std.proofs.Common.{◌≡◌, ℕ, ◌+◌, ◌-◌, ◌<◌, ◌≤◌, ◌⊎◌, inl, inr, List, [], ◌∷◌, ◌++◌, length, get_or, set, take, drop, replicate, refl, sym, ap, ◌∙◌, arith, subst, length-set, get_or-set_same, get_or-set_other}
use Rattle.std.specs.Prelude.{Contains}
use Rattle.std.proofs.lemmas.Bool.{cases_eq, cases_lt}
use Rattle.std.proofs.lemmas.List.{get_or_append_left, get_or_push, length_push, get_or-take, get_or-drop, length-take, length-drop, take-append-le, get_or_default, get_or_read, get_or_past, get_or-replicate, length-replicate, take_all}
use Rattle.std.proofs.lemmas.List.Elements.{Contains-append_left, Contains-push}
use Rattle.hw_graph.specs.Graph.{HasRead, AreInRange, IsReadOrder, IsTrail, IsCycle}
use Rattle.hw_graph.specs.inside.Search.{mark_of, IsNext, IsPath, AreDone, AreLooked, IsSearch, IsSeen, KeepsSeen, IsTail}
use Rattle.hw_graph.specs.inside.Unread.{AreUnread, TakesRead}
use Rattle.hw_graph.specs.declared.search.Mark.{Mark}
use Rattle.hw_graph.specs.declared.search.Search.{Search}
use Rattle.hw_graph.specs.declared.search.Mark.TheVariants.{Unseen, Open, Done}

-- a number in a list, at the default 0
pub contained_at : (xs : List ℕ) (x : ℕ) (has : Contains xs x) → get_or xs has.0 0 ≡ x
contained_at xs x has = get_or_default xs has.0 0 x has.1 ∙ has.2

pub contains_at : (xs : List ℕ) (k x : ℕ) → k < length xs → get_or xs k 0 ≡ x → Contains xs x
contains_at xs k x within at = (k, within, get_or_default xs k x 0 within ∙ at)

-- a number at the end of a list, or before it
pub pushed : (xs : List ℕ) (y i : ℕ) → i < length xs → get_or (xs ++ y ∷ []) i 0 ≡ get_or xs i 0
pushed xs y i within = get_or_append_left xs (y ∷ []) 0 i within

pub pushed_last : (xs : List ℕ) (y i : ℕ) → i ≡ length xs → get_or (xs ++ y ∷ []) i 0 ≡ y
pushed_last xs y i e = get_or_push xs y 0 i (sym e)

-- a trail of no port, without its last ports, and with one more
pub trail_none : (reads : List (List ℕ)) → IsTrail reads []
trail_none reads = record { in_range = λ i lt. absurd (omega (arith, lt)); along = λ i lt. absurd (omega (arith, lt)); once = λ i j lt lt' same. absurd (omega (arith, lt)) }

pub trail_less : (reads : List (List ℕ)) (path : List ℕ) (n : ℕ) → n ≤ length path → IsTrail reads path → IsTrail reads (take n path)
trail_less reads path n le t = record {
  in_range = λ i lt. rw (at i lt) (t.in_range i (omega (arith, lt, size, le)));
  along = λ i lt. rw (at i (omega (arith, lt)), at (i + 1) lt) (t.along i (omega (arith, lt, size, le)));
  once = λ i j lt lt' same. t.once i j (omega (arith, lt, size, le)) (omega (arith, lt', size, le)) (sym (at i lt) ∙ same ∙ at j lt');
}
  where
    size : length (take n path) ≡ n
    size = simp length-take (omega (arith, le))

    at : (i : ℕ) → i < length (take n path) → get_or (take n path) i 0 ≡ get_or path i 0
    at i lt = get_or-take n path i 0 (omega (arith, lt, size))

pub trail_more : (reads : List (List ℕ)) (path : List ℕ) (q : ℕ) → q < length reads → (Contains path q → ⊥) → (0 < length path → HasRead reads (get_or path (length path - 1) 0) q) → IsTrail reads path → IsTrail reads (path ++ q ∷ [])
trail_more reads path q within new read t = record { in_range = in_range; along = along; once = once }
  where
    n : length (path ++ q ∷ []) ≡ length path + 1
    n = length_push path q

    in_range : (i : ℕ) → i < length (path ++ q ∷ []) → get_or (path ++ q ∷ []) i 0 < length reads
    in_range i lt = elim (cases_lt i (length path)) [
      | inl before ↦ rw (pushed path q i before) (t.in_range i before)
      | inr last ↦ rw (pushed_last path q i (omega (arith, lt, n, last))) within
    ]

    along : (i : ℕ) → i + 1 < length (path ++ q ∷ []) → HasRead reads (get_or (path ++ q ∷ []) i 0) (get_or (path ++ q ∷ []) (i + 1) 0)
    along i lt = elim (cases_lt (i + 1) (length path)) [
      | inl before ↦ rw (pushed path q i (omega (arith, before)), pushed path q (i + 1) before) (t.along i before)
      | inr last ↦
          let at_end : i ≡ length path - 1 = omega (arith, lt, n, last) in
          rw (pushed path q i (omega (arith, lt, n)), pushed_last path q (i + 1) (omega (arith, lt, n, last)))
          (subst (λ k. HasRead reads (get_or path k 0) q) (sym at_end) (read (omega (arith, lt, n))))
    ]

    once : (i j : ℕ) → i < length (path ++ q ∷ []) → j < length (path ++ q ∷ []) → get_or (path ++ q ∷ []) i 0 ≡ get_or (path ++ q ∷ []) j 0 → i ≡ j
    once i j lt lt' same = elim (cases_lt i (length path)) [
      | inl before ↦ elim (cases_lt j (length path)) [
        | inl before' ↦ t.once i j before before' (sym (pushed path q i before) ∙ same ∙ pushed path q j before')
        | inr last' ↦ absurd (new (contains_at path i q before (sym (pushed path q i before) ∙ same ∙ pushed_last path q j (omega (arith, lt', n, last')))))
      ]
      | inr last ↦ elim (cases_lt j (length path)) [
        | inl before' ↦ absurd (new (contains_at path j q before' (sym (pushed path q j before') ∙ sym same ∙ pushed_last path q i (omega (arith, lt, n, last)))))
        | inr last' ↦ omega (arith, lt, lt', last, last', n)
      ]
    ]

mark_stays : (marks : List Mark) (port q : ℕ) (mark : Mark) → (q ≡ port → ⊥) → mark_of (set marks port mark) q ≡ mark_of marks q
mark_stays marks port q mark ne = get_or-set_other marks port q mark Unseen ne

mark_is : (marks : List Mark) (port : ℕ) (mark : Mark) → port < length marks → mark_of (set marks port mark) port ≡ mark
mark_is marks port mark within = get_or-set_same marks port mark Unseen within

next_stays : (path : List ℕ) (q port other : ℕ) → IsNext path port other → IsNext (path ++ q ∷ []) port other
next_stays path q port other (i, within, at, next) =
    (i, omega (arith, within, length_push path q), pushed path q i (omega (arith, within)) ∙ at, pushed path q (i + 1) within ∙ next)

-- ---- a port is opened, which the last port on the path reads, if there is one

module _ (reads : List (List ℕ)) (marks : List Mark) (path : List ℕ) (q : ℕ) (in_range : q < length reads) (all : length marks ≡ length reads) (unseen : mark_of marks q ≡ Unseen) where
  other_than : (p : ℕ) (m : Mark) → mark_of marks p ≡ m → (Unseen ≡ m → ⊥) → p ≡ q → ⊥
  other_than p m is ne e = ne (sym unseen ∙ ap (mark_of marks) (sym e) ∙ is)

  pub path_opened : IsPath reads marks path → (0 < length path → HasRead reads (get_or path (length path - 1) 0) q) → IsPath reads (set marks q Open) (path ++ q ∷ [])
  path_opened p read = record { trail = trail_more reads path q in_range fresh read p.trail; are_open = are_open; all_open = all_open }
    where
      are_open : (i : ℕ) → i < length (path ++ q ∷ []) → mark_of (set marks q Open) (get_or (path ++ q ∷ []) i 0) ≡ Open
      are_open i lt = elim (cases_lt i (length path)) [
        | inl before ↦
            ap (mark_of (set marks q Open)) (pushed path q i before)
            ∙ mark_stays marks q (get_or path i 0) Open (other_than (get_or path i 0) Open (p.are_open i before) (λ e. cc)) ∙ p.are_open i before
        | inr last ↦ ap (mark_of (set marks q Open)) (pushed_last path q i (omega (arith, lt, length_push path q, last))) ∙ mark_is marks q Open (omega (arith, all, in_range))
      ]

      all_open : (port : ℕ) → mark_of (set marks q Open) port ≡ Open → Contains (path ++ q ∷ []) port
      all_open port is = elim (cases_eq port q) [
        | inl same ↦ subst (Contains (path ++ q ∷ [])) (sym same) (Contains-push path q)
        | inr ne ↦ Contains-append_left path (q ∷ []) port (p.all_open port (sym (mark_stays marks q port Open ne) ∙ is))
      ]

      fresh : Contains path q → ⊥
      fresh has = other_than (get_or path has.0 0) Open (p.are_open has.0 has.1) (λ x. cc) (contained_at path q has)

  pub done_opened : (order : List ℕ) → AreDone reads marks order → AreDone reads (set marks q Open) order
  done_opened order d = record {
    in_range = d.in_range;
    are_done = λ i lt. mark_stays marks q (get_or order i 0) Open (other_than (get_or order i 0) Done (d.are_done i lt) (λ e. cc)) ∙ d.are_done i lt;
    all_done = all_done;
    once = d.once;
    after = d.after;
  }
    where
      all_done : (port : ℕ) → mark_of (set marks q Open) port ≡ Done → Contains order port
      all_done port is = elim (cases_eq port q) [
        | inl same ↦ let now : Open ≡ Done = sym (mark_is marks q Open (omega (arith, all, in_range))) ∙ ap (mark_of (set marks q Open)) (sym same) ∙ is in absurd (cc)
        | inr ne ↦ d.all_done port (sym (mark_stays marks q port Open ne) ∙ is)
      ]

  seen_opened : (port : ℕ) → mark_of (set marks q Open) port ≡ Unseen → mark_of marks port ≡ Unseen
  seen_opened port is = elim (cases_eq port q) [
    | inl same ↦ ap (mark_of marks) same ∙ unseen
    | inr ne ↦ sym (mark_stays marks q port Open ne) ∙ is
  ]

-- ---- one more read of a port is looked at

module _ (reads : List (List ℕ)) (marks : List Mark) (left path : List ℕ) (top l : ℕ) (in_range : top < length reads) (all_left : length left ≡ length reads) (left_is : get_or left top 0 ≡ l + 1) (k : AreLooked reads marks left path) where
  less_left : (port : ℕ) → get_or (set left top l) port 0 ≤ get_or left port 0
  less_left port = elim (cases_eq port top) [
    | inl same ↦ rw same (omega (arith, get_or-set_same left top l 0 (omega (arith, all_left, in_range)), left_is))
    | inr ne ↦ omega (arith, get_or-set_other left top port l 0 ne)
  ]

  -- what is looked at now was before, or is the last read that was left
  cases_looked : (port j : ℕ) → get_or (set left top l) port 0 ≤ j → (get_or left port 0 ≤ j) ⊎ ((port ≡ top) × (j ≡ l))
  cases_looked port j le = elim (cases_eq port top) [
    | inl same ↦
        let now : get_or (set left top l) port 0 ≡ l = ap (λ p. get_or (set left top l) p 0) same ∙ get_or-set_same left top l 0 (omega (arith, all_left, in_range)) in
        let was : get_or left port 0 ≡ l + 1 = ap (λ p. get_or left p 0) same ∙ left_is in
        elim (cases_lt l j) [
          | inl more ↦ inl (omega (arith, was, more))
          | inr last ↦ inr (same, omega (arith, last, le, now))
        ]
    | inr ne ↦ inl (omega (arith, le, get_or-set_other left top port l 0 ne))
  ]

  pub looked_done : mark_of marks (get_or (get_or reads top []) l 0) ≡ Done → AreLooked reads marks (set left top l) path
  looked_done done = record {
    at_most = λ port lt. omega (arith, less_left port, k.at_most port lt);
    each = λ port j lt le within. elim (cases_looked port j le) [
      | inl before ↦ k.each port j lt before within
      | inr (same, is) ↦ inl (rw (same, is) done)
    ];
  }

  pub looked_opened : (q : ℕ) → q ≡ get_or (get_or reads top []) l 0 → mark_of marks q ≡ Unseen → 0 < length path → top ≡ get_or path (length path - 1) 0 → AreLooked reads (set marks q Open) (set left top l) (path ++ q ∷ [])
  looked_opened q read unseen some at_top = record {
    at_most = λ port lt. omega (arith, less_left port, k.at_most port lt);
    each = each;
  }
    where
      here : IsNext (path ++ q ∷ []) top q
      here = (length path - 1, omega (arith, some, length_push path q), pushed path q (length path - 1) (omega (arith, some)) ∙ sym at_top, pushed_last path q (length path - 1 + 1) (omega (arith, some)))

      still : (port other : ℕ) → (mark_of marks other ≡ Done) ⊎ IsNext path port other → (mark_of (set marks q Open) other ≡ Done) ⊎ IsNext (path ++ q ∷ []) port other
      still port other (inl done) = inl (mark_stays marks q other Open (λ e. let bad : Unseen ≡ Done = sym unseen ∙ ap (mark_of marks) (sym e) ∙ done in cc) ∙ done)
      still port other (inr next) = inr (next_stays path q port other next)

      each : (port j : ℕ) → port < length reads → get_or (set left top l) port 0 ≤ j → j < length (get_or reads port []) → (mark_of (set marks q Open) (get_or (get_or reads port []) j 0) ≡ Done) ⊎ IsNext (path ++ q ∷ []) port (get_or (get_or reads port []) j 0)
      each port j lt le within = elim (cases_looked port j le) [
        | inl before ↦ still port (get_or (get_or reads port []) j 0) (k.each port j lt before within)
        | inr (same, is) ↦ inr (rw (same, is) (subst (IsNext (path ++ q ∷ []) top) read here))
      ]

-- ---- the last port on the path is closed

module _ (reads : List (List ℕ)) (marks : List Mark) (left path : List ℕ) (top : ℕ) (all : length marks ≡ length reads) (p : IsPath reads marks path) (some : 0 < length path) (at_top : top ≡ get_or path (length path - 1) 0) where
  top_within : top < length marks
  top_within = rw at_top (omega (arith, all, p.trail.in_range (length path - 1) (omega (arith, some))))

  top_open : mark_of marks top ≡ Open
  top_open = ap (mark_of marks) at_top ∙ p.are_open (length path - 1) (omega (arith, some))

  shorter : length (take (length path - 1) path) ≡ length path - 1
  shorter = simp length-take (omega arith)

  kept_at : (i : ℕ) → i < length path - 1 → get_or (take (length path - 1) path) i 0 ≡ get_or path i 0
  kept_at i lt = get_or-take (length path - 1) path i 0 lt

  below_top : (i : ℕ) → i < length path - 1 → get_or path i 0 ≡ top → ⊥
  below_top i lt e = let twice : i ≡ length path - 1 = p.trail.once i (length path - 1) (omega (arith, lt)) (omega (arith, some)) (e ∙ at_top) in omega (arith, lt, twice)

  pub path_closed : IsPath reads (set marks top Done) (take (length path - 1) path)
  path_closed = record {
    trail = trail_less reads path (length path - 1) (omega arith) p.trail;
    are_open = λ i lt.
        let below : i < length path - 1 = omega (arith, lt, shorter) in
        ap (mark_of (set marks top Done)) (kept_at i below) ∙ mark_stays marks top (get_or path i 0) Done (below_top i below) ∙ p.are_open i (omega (arith, below));
    all_open = all_open;
  }
    where
      all_open : (port : ℕ) → mark_of (set marks top Done) port ≡ Open → Contains (take (length path - 1) path) port
      all_open port is = elim (cases_eq port top) [
        | inl same ↦ let now : Done ≡ Open = sym (mark_is marks top Done top_within) ∙ ap (mark_of (set marks top Done)) (sym same) ∙ is in absurd (cc)
        | inr ne ↦
            let has = p.all_open port (sym (mark_stays marks top port Done ne) ∙ is) in
            let below : has.0 < length path - 1 = elim (cases_lt has.0 (length path - 1)) [
              | inl lt ↦ lt
              | inr ge ↦ let last : has.0 ≡ length path - 1 = omega (arith, ge, has.1) in absurd (ne (sym (contained_at path port has) ∙ ap (λ k. get_or path k 0) last ∙ sym at_top))
            ] in
            contains_at (take (length path - 1) path) has.0 port (omega (arith, below, shorter)) (kept_at has.0 below ∙ contained_at path port has)
      ]

  pub looked_closed : AreLooked reads marks left path → AreLooked reads (set marks top Done) left (take (length path - 1) path)
  looked_closed k = record { at_most = k.at_most; each = λ port j lt le within. still port (get_or (get_or reads port []) j 0) (k.each port j lt le within) }
    where
      is_done : (other : ℕ) → mark_of marks other ≡ Done → mark_of (set marks top Done) other ≡ Done
      is_done other done = elim (cases_eq other top) [
        | inl same ↦ ap (mark_of (set marks top Done)) same ∙ mark_is marks top Done top_within
        | inr ne ↦ mark_stays marks top other Done ne ∙ done
      ]

      still : (port other : ℕ) → (mark_of marks other ≡ Done) ⊎ IsNext path port other → (mark_of (set marks top Done) other ≡ Done) ⊎ IsNext (take (length path - 1) path) port other
      still port other (inl done) = inl (is_done other done)
      still port other (inr (i, within, at, next)) = elim (cases_lt (i + 1) (length path - 1)) [
        | inl below ↦ inr (i, omega (arith, below, shorter), kept_at i (omega (arith, below)) ∙ at, kept_at (i + 1) below ∙ next)
        | inr last ↦
            let e : other ≡ top = sym next ∙ ap (λ n. get_or path n 0) (let n : i + 1 ≡ length path - 1 = omega (arith, last, within) in n) ∙ sym at_top in
            inl (ap (mark_of (set marks top Done)) e ∙ mark_is marks top Done top_within)
      ]

  -- all that the port reads is done
  all_reads_done : AreLooked reads marks left path → get_or left top 0 ≡ 0 → (port : ℕ) → HasRead reads top port → mark_of marks port ≡ Done
  all_reads_done k none port has =
      elim (k.each top has.0 (omega (arith, top_within, all)) (omega (arith, none)) has.1) [
        | inl done ↦ ap (mark_of marks) (sym (contained_at (get_or reads top []) port has)) ∙ done
        | inr (i, within, at, next) ↦ absurd (below_top i (omega (arith, within)) at)
      ]

  pub done_closed : (order : List ℕ) → AreDone reads marks order → AreLooked reads marks left path → get_or left top 0 ≡ 0 → AreDone reads (set marks top Done) (order ++ top ∷ [])
  done_closed order d k none = record { in_range = within; are_done = are_done; all_done = all_done; once = once; after = after }
    where
      n : length (order ++ top ∷ []) ≡ length order + 1
      n = length_push order top

      fresh : (i : ℕ) → i < length order → get_or order i 0 ≡ top → ⊥
      fresh i lt e = let bad : Open ≡ Done = sym top_open ∙ ap (mark_of marks) (sym e) ∙ d.are_done i lt in cc

      within : (i : ℕ) → i < length (order ++ top ∷ []) → get_or (order ++ top ∷ []) i 0 < length reads
      within i lt = elim (cases_lt i (length order)) [
        | inl before ↦ rw (pushed order top i before) (d.in_range i before)
        | inr last ↦ rw (pushed_last order top i (omega (arith, lt, n, last))) (omega (arith, top_within, all))
      ]

      are_done : (i : ℕ) → i < length (order ++ top ∷ []) → mark_of (set marks top Done) (get_or (order ++ top ∷ []) i 0) ≡ Done
      are_done i lt = elim (cases_lt i (length order)) [
        | inl before ↦ ap (mark_of (set marks top Done)) (pushed order top i before) ∙ mark_stays marks top (get_or order i 0) Done (fresh i before) ∙ d.are_done i before
        | inr last ↦ ap (mark_of (set marks top Done)) (pushed_last order top i (omega (arith, lt, n, last))) ∙ mark_is marks top Done top_within
      ]

      all_done : (port : ℕ) → mark_of (set marks top Done) port ≡ Done → Contains (order ++ top ∷ []) port
      all_done port is = elim (cases_eq port top) [
        | inl same ↦ subst (Contains (order ++ top ∷ [])) (sym same) (Contains-push order top)
        | inr ne ↦ Contains-append_left order (top ∷ []) port (d.all_done port (sym (mark_stays marks top port Done ne) ∙ is))
      ]

      once : (i j : ℕ) → i < length (order ++ top ∷ []) → j < length (order ++ top ∷ []) → get_or (order ++ top ∷ []) i 0 ≡ get_or (order ++ top ∷ []) j 0 → i ≡ j
      once i j lt lt' same = elim (cases_lt i (length order)) [
        | inl before ↦ elim (cases_lt j (length order)) [
          | inl before' ↦ d.once i j before before' (sym (pushed order top i before) ∙ same ∙ pushed order top j before')
          | inr last' ↦ absurd (fresh i before (sym (pushed order top i before) ∙ same ∙ pushed_last order top j (omega (arith, lt', n, last'))))
        ]
        | inr last ↦ elim (cases_lt j (length order)) [
          | inl before' ↦ absurd (fresh j before' (sym (pushed order top j before') ∙ sym same ∙ pushed_last order top i (omega (arith, lt, n, last))))
          | inr last' ↦ omega (arith, lt, lt', last, last', n)
        ]
      ]

      after : (i port : ℕ) → i < length (order ++ top ∷ []) → HasRead reads (get_or (order ++ top ∷ []) i 0) port → Contains (take i (order ++ top ∷ [])) port
      after i port lt read = elim (cases_lt i (length order)) [
        | inl before ↦ rw (take-append-le i order (top ∷ []) (omega (arith, before))) (d.after i port before (rw (pushed order top i before) at read))
        | inr last ↦
            let is : i ≡ length order = omega (arith, lt, n, last) in
            rw (is, take-append-le (length order) order (top ∷ []) (omega arith), take_all (length order) order (omega arith))
            (d.all_done port (all_reads_done k none port (rw (pushed_last order top i is) at read)))
      ]

  pub seen_closed : (port : ℕ) → mark_of (set marks top Done) port ≡ Unseen → mark_of marks port ≡ Unseen
  seen_closed port is = elim (cases_eq port top) [
    | inl same ↦ let now : Done ≡ Unseen = sym (mark_is marks top Done top_within) ∙ ap (mark_of (set marks top Done)) (sym same) ∙ is in absurd (cc)
    | inr ne ↦ sym (mark_stays marks top port Done ne) ∙ is
  ]

-- ---- a read of an open port closes a loop

pub cycle_found : (reads : List (List ℕ)) (marks : List Mark) (path tail : List ℕ) (q top : ℕ) → IsPath reads marks path → 0 < length path → top ≡ get_or path (length path - 1) 0 → HasRead reads top q → IsTail path q tail → IsCycle reads tail
cycle_found reads marks path tail q top p some at_top read t = rw t.is (record { some = nonempty; trail = record { in_range = λ i lt. rw (at i) (p.trail.in_range (t.place + i) (omega (arith, lt, n))); along = along; once = once }; back = back })
  where
    n : length (drop t.place path) ≡ length path - t.place
    n = length-drop t.place path

    at : (i : ℕ) → get_or (drop t.place path) i 0 ≡ get_or path (t.place + i) 0
    at i = get_or-drop t.place path i 0

    nonempty : 0 < length (drop t.place path)
    nonempty = omega (arith, n, t.within)

    along : (i : ℕ) → i + 1 < length (drop t.place path) → HasRead reads (get_or (drop t.place path) i 0) (get_or (drop t.place path) (i + 1) 0)
    along i lt =
        let e : t.place + (i + 1) ≡ t.place + i + 1 = omega arith in
        rw (at i, at (i + 1), e) (p.trail.along (t.place + i) (omega (arith, lt, n)))

    back : HasRead reads (get_or (drop t.place path) (length (drop t.place path) - 1) 0) (get_or (drop t.place path) 0 0)
    back =
        let last : get_or (drop t.place path) (length (drop t.place path) - 1) 0 ≡ top = at (length (drop t.place path) - 1) ∙ ap (λ k. get_or path k 0) (let e : t.place + (length (drop t.place path) - 1) ≡ length path - 1 = omega (arith, n, t.within) in e) ∙ sym at_top in
        let first : get_or (drop t.place path) 0 0 ≡ q = at 0 ∙ ap (λ k. get_or path k 0) (let e : t.place + 0 ≡ t.place = omega arith in e) ∙ t.at in
        rw (last, first) read

    once : (i j : ℕ) → i < length (drop t.place path) → j < length (drop t.place path) → get_or (drop t.place path) i 0 ≡ get_or (drop t.place path) j 0 → i ≡ j
    once i j lt lt' same =
        let e : t.place + i ≡ t.place + j = p.trail.once (t.place + i) (t.place + j) (omega (arith, lt, n)) (omega (arith, lt', n)) (sym (at i) ∙ same ∙ at j) in
        omega (arith, e)

-- the mark that was read
pub read_mark : (marks old : List Mark) (q : ℕ) (x m : Mark) → q < length marks → x ≡ get_or marks q x → x ≡ m → marks ≡ old → mark_of old q ≡ m
read_mark marks old q x m within read is same = ap (λ (l : List Mark). mark_of l q) (sym same) ∙ sym (get_or_read marks q x within read Unseen) ∙ is

-- ---- the steps of a search

pub taken_read : (reads : List (List ℕ)) (left left' : List ℕ) (port read : ℕ) → TakesRead (get_or reads port []) left port read left' → HasRead reads port read
taken_read reads left left' port read t = contains_at (get_or reads port []) t.place read t.within (sym t.is)

module _ (reads : List (List ℕ)) (old new : Search) (top : ℕ) (s : IsSearch reads old) (some : 0 < length old.path.items) (at_top : top ≡ get_or old.path.items (length old.path.items - 1) 0) where
  last_in_range : top < length reads
  last_in_range = rw at_top (s.path.trail.in_range (length old.path.items - 1) (omega (arith, some)))

  pub step_closed : get_or old.left.items top 0 ≡ 0 → new.left.items ≡ old.left.items → new.marks.items ≡ set old.marks.items top Done → new.path.items ≡ take (length old.path.items - 1) old.path.items → new.order.items ≡ old.order.items ++ top ∷ [] → IsSearch reads new
  step_closed none left marks path order =
      let p = path_closed reads old.marks.items old.left.items old.path.items top s.all_marks s.path some at_top in
      let d = done_closed reads old.marks.items old.left.items old.path.items top s.all_marks s.path some at_top old.order.items s.order s.looked none in
      let k = looked_closed reads old.marks.items old.left.items old.path.items top s.all_marks s.path some at_top s.looked in
      record {
        all_marks = ap length marks ∙ length-set old.marks.items top Done ∙ s.all_marks;
        all_left = ap length left ∙ s.all_left;
        path = rw (marks, path) p;
        order = rw (marks, order) d;
        looked = rw (marks, left, path) k;
      }

  module _ (q : ℕ) (t : TakesRead (get_or reads top []) old.left.items top q new.left.items) where
    left_kept : length new.left.items ≡ length reads
    left_kept = ap length t.now ∙ length-set old.left.items top t.place ∙ s.all_left

    pub read_in_range : AreInRange reads → q < length old.marks.items
    read_in_range range = omega (arith, range top q (taken_read reads old.left.items new.left.items top q t), s.all_marks)

    pub step_done : mark_of old.marks.items q ≡ Done → new.marks.items ≡ old.marks.items → new.path.items ≡ old.path.items → new.order.items ≡ old.order.items → IsSearch reads new
    step_done done marks path order =
        let k = looked_done reads old.marks.items old.left.items old.path.items top t.place last_in_range s.all_left t.was s.looked (ap (mark_of old.marks.items) (sym t.is) ∙ done) in
        record {
          all_marks = ap length marks ∙ s.all_marks;
          all_left = left_kept;
          path = rw (marks, path) s.path;
          order = rw (marks, order) s.order;
          looked = rw (marks, t.now, path) k;
        }

    pub step_opened : AreInRange reads → mark_of old.marks.items q ≡ Unseen → new.marks.items ≡ set old.marks.items q Open → new.path.items ≡ old.path.items ++ q ∷ [] → new.order.items ≡ old.order.items → IsSearch reads new
    step_opened range unseen marks path order =
        let read = taken_read reads old.left.items new.left.items top q t in
        let p = path_opened reads old.marks.items old.path.items q (range top q read) s.all_marks unseen s.path (λ _. subst (λ x. HasRead reads x q) at_top read) in
        let d = done_opened reads old.marks.items old.path.items q (range top q read) s.all_marks unseen old.order.items s.order in
        let k = looked_opened reads old.marks.items old.left.items old.path.items top t.place last_in_range s.all_left t.was s.looked q t.is unseen some at_top in
        record {
          all_marks = ap length marks ∙ length-set old.marks.items q Open ∙ s.all_marks;
          all_left = left_kept;
          path = rw (marks, path) p;
          order = rw (marks, order) d;
          looked = rw (marks, t.now, path) k;
        }

    pub step_cycle : (tail : List ℕ) → IsTail old.path.items q tail → IsCycle reads tail
    step_cycle tail t' = cycle_found reads old.marks.items old.path.items tail q top s.path some at_top (taken_read reads old.left.items new.left.items top q t) t'

-- ---- nothing is seen

unseen_at : (n q : ℕ) → mark_of (replicate n Unseen) q ≡ Unseen
unseen_at n q = elim (cases_lt q n) [
  | inl lt ↦ get_or-replicate n q Unseen Unseen lt
  | inr past ↦ get_or_past (replicate n Unseen) q Unseen (omega (arith, past, length-replicate n Unseen))
]

pub search_none : (reads : List (List ℕ)) (s : Search) → s.marks.items ≡ replicate (length reads) Unseen → AreUnread reads s.left.items → s.path.items ≡ [] → s.order.items ≡ [] → IsSearch reads s
search_none reads s marks are path order = record {
  all_marks = ap length marks ∙ length-replicate (length reads) Unseen;
  all_left = are.all;
  path = rw (marks, path) (record {
    trail = trail_none reads;
    are_open = λ i lt. absurd (omega (arith, lt));
    all_open = λ port is. let bad : Unseen ≡ Open = sym (unseen_at (length reads) port) ∙ is in absurd (cc);
  });
  order = rw (marks, order) (record {
    in_range = λ i lt. absurd (omega (arith, lt));
    are_done = λ i lt. absurd (omega (arith, lt));
    all_done = λ port is. let bad : Unseen ≡ Done = sym (unseen_at (length reads) port) ∙ is in absurd (cc);
    once = λ i j lt lt' same. absurd (omega (arith, lt));
    after = λ i port lt read. absurd (omega (arith, lt));
  });
  looked = record {
    at_most = λ port lt. omega (arith, are.each port lt);
    each = λ port j lt le within. absurd (omega (arith, are.each port lt, le, within));
  };
}

-- ---- a search from a port

looked_root : (reads : List (List ℕ)) (marks : List Mark) (left path : List ℕ) (q : ℕ) → mark_of marks q ≡ Unseen → AreLooked reads marks left path → AreLooked reads (set marks q Open) left (path ++ q ∷ [])
looked_root reads marks left path q unseen k = record { at_most = k.at_most; each = λ port j lt le within. still port (get_or (get_or reads port []) j 0) (k.each port j lt le within) }
  where
    still : (port other : ℕ) → (mark_of marks other ≡ Done) ⊎ IsNext path port other → (mark_of (set marks q Open) other ≡ Done) ⊎ IsNext (path ++ q ∷ []) port other
    still port other (inl done) = inl (mark_stays marks q other Open (λ e. let bad : Unseen ≡ Done = sym unseen ∙ ap (mark_of marks) (sym e) ∙ done in cc) ∙ done)
    still port other (inr next) = inr (next_stays path q port other next)

module _ (reads : List (List ℕ)) (old new : Search) (q : ℕ) (s : IsSearch reads old) (in_range : q < length reads) (unseen : mark_of old.marks.items q ≡ Unseen) (empty : old.path.items ≡ []) (marks : new.marks.items ≡ set old.marks.items q Open) (left : new.left.items ≡ old.left.items) (path : new.path.items ≡ old.path.items ++ q ∷ []) (order : new.order.items ≡ old.order.items) where
  pub root_opened : IsSearch reads new
  root_opened =
      let none : 0 < length old.path.items → ⊥ = λ h. omega (arith, h, ap length empty) in
      let p = path_opened reads old.marks.items old.path.items q in_range s.all_marks unseen s.path (λ h. absurd (none h)) in
      let d = done_opened reads old.marks.items old.path.items q in_range s.all_marks unseen old.order.items s.order in
      let k = looked_root reads old.marks.items old.left.items old.path.items q unseen s.looked in
      record {
        all_marks = ap length marks ∙ length-set old.marks.items q Open ∙ s.all_marks;
        all_left = ap length left ∙ s.all_left;
        path = rw (marks, path) p;
        order = rw (marks, order) d;
        looked = rw (marks, left, path) k;
      }

  pub root_seen : IsSeen new q
  root_seen is = let now : Open ≡ Unseen = sym (mark_is old.marks.items q Open (omega (arith, s.all_marks, in_range))) ∙ ap (λ (l : List Mark). mark_of l q) (sym marks) ∙ is in cc

  pub root_kept : KeepsSeen old new
  root_kept port is = seen_opened reads old.marks.items old.path.items q in_range s.all_marks unseen port (ap (λ (l : List Mark). mark_of l port) (sym marks) ∙ is)

-- ---- the search is over

pub search_done : (reads : List (List ℕ)) (s : Search) → IsSearch reads s → s.path.items ≡ [] → ((port : ℕ) → port < length reads → IsSeen s port) → IsReadOrder reads s.order.items
search_done reads s is empty seen = record {
  in_range = is.order.in_range;
  each = λ port lt. is.order.all_done port (by port lt (mark_of s.marks.items port) refl);
  once = is.order.once;
  after = is.order.after;
}
  where
    by : (port : ℕ) → port < length reads → (m : Mark) → mark_of s.marks.items port ≡ m → mark_of s.marks.items port ≡ Done
    by port lt Unseen e = absurd (seen port lt e)
    by port lt Open e = let has = is.path.all_open port e in absurd (omega (arith, has.1, ap length empty))
    by port lt Done e = e
