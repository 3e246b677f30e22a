-- Steps of a walk through a graph, depth first.
use Rattle.std.proofs.Common.{◌≡◌, ℕ, ◌+◌, ◌-◌, ◌<◌, ◌≤◌, ◌⊎◌, inl, inr, Bool, true, false, List, [], ◌∷◌, ◌++◌, length, get_or, set, take, replicate, sym, ap, ◌∙◌, arith, subst, length-set, get_or-set_same, get_or-set_other}
use Rattle.std.specs.Prelude.{Contains}
use Rattle.std.proofs.lemmas.Bool.{cases_eq, cases_lt}
use Rattle.std.proofs.lemmas.List.{get_or_read, get_or-take, length-take, length_push, get_or_past, get_or-replicate, length-replicate}
use Rattle.std.proofs.lemmas.List.Elements.{Contains-append_left, Contains-push}
use Rattle.hw_graph.proofs.SearchLemmas.{contained_at, contains_at, pushed, pushed_last, trail_none, trail_less, trail_more}
use Rattle.hw_graph.specs.Graph.{HasRead}
use Rattle.hw_graph.specs.inside.Unread.{AreUnread}
use Rattle.hw_graph.specs.Walk.{is_seen, HasReached}

pub seen_stays : (seen : List Bool) (q port : ℕ) → q < length seen → is_seen seen port ≡ true → is_seen (set seen q true) port ≡ true
seen_stays seen q port within done = elim (cases_eq port q) [
  | inl same ↦ ap (is_seen (set seen q true)) same ∙ get_or-set_same seen q true false within
  | inr ne ↦ get_or-set_other seen q port true false ne ∙ done
]

-- nothing is reached
pub reached_none : (reads : List (List ℕ)) (left : List ℕ) → AreUnread reads left → HasReached reads (replicate (length reads) false) left []
reached_none reads left are = record {
  all_seen = length-replicate (length reads) false;
  all_left = are.all;
  trail = trail_none reads;
  on_path = λ i lt. absurd (omega (arith, lt));
  at_most = λ port lt. omega (arith, are.each port lt);
  reached = λ port j lt le within. absurd (omega (arith, are.each port lt, le, within));
  finished = λ port done. elim (cases_lt port (length reads)) [
    | inl lt ↦ let unseen : is_seen (replicate (length reads) false) port ≡ false = get_or-replicate (length reads) port false false lt in absurd (cc)
    | inr past ↦ let unseen : is_seen (replicate (length reads) false) port ≡ false = get_or_past (replicate (length reads) false) port false (omega (arith, past, length-replicate (length reads) false)) in absurd (cc)
  ];
}

module _ (reads : List (List ℕ)) (seen : List Bool) (left path : List ℕ) (w : HasReached reads seen left path) where
  pub seen_within : (port : ℕ) → is_seen seen port ≡ true → port < length reads
  seen_within port done = elim (cases_lt port (length seen)) [
    | inl lt ↦ omega (arith, lt, w.all_seen)
    | inr past ↦ let unseen : is_seen seen port ≡ false = get_or_past seen port false past in absurd (cc)
  ]

  -- ---- a port is reached

  pub reached_more : (q : ℕ) → q < length reads → is_seen seen q ≡ false → (0 < length path → HasRead reads (get_or path (length path - 1) 0) q) → HasReached reads (set seen q true) left (path ++ q ∷ [])
  reached_more q within unseen read = record {
    all_seen = length-set seen q true ∙ w.all_seen;
    all_left = w.all_left;
    trail = trail_more reads path q within new read w.trail;
    on_path = on_path;
    at_most = w.at_most;
    reached = λ port j lt le below. seen_stays seen q (get_or (get_or reads port []) j 0) in_seen (w.reached port j lt le below);
    finished = finished;
  }
    where
      in_seen : q < length seen
      in_seen = omega (arith, within, w.all_seen)

      new : Contains path q → ⊥
      new has = let done : is_seen seen q ≡ true = ap (is_seen seen) (sym (contained_at path q has)) ∙ w.on_path has.0 has.1 in cc

      on_path : (i : ℕ) → i < length (path ++ q ∷ []) → is_seen (set seen q true) (get_or (path ++ q ∷ []) i 0) ≡ true
      on_path i lt = elim (cases_lt i (length path)) [
        | inl before ↦ ap (is_seen (set seen q true)) (pushed path q i before) ∙ seen_stays seen q (get_or path i 0) in_seen (w.on_path i before)
        | inr last ↦ ap (is_seen (set seen q true)) (pushed_last path q i (omega (arith, lt, length_push path q, last))) ∙ get_or-set_same seen q true false in_seen
      ]

      finished : (port : ℕ) → is_seen (set seen q true) port ≡ true → (get_or left port 0 ≡ 0) ⊎ Contains (path ++ q ∷ []) port
      finished port done = elim (cases_eq port q) [
        | inl same ↦ inr (subst (Contains (path ++ q ∷ [])) (sym same) (Contains-push path q))
        | inr ne ↦ elim (w.finished port (sym (get_or-set_other seen q port true false ne) ∙ done)) [
          | inl none ↦ inl none
          | inr on ↦ inr (Contains-append_left path (q ∷ []) port on)
        ]
      ]

  on_within : (port : ℕ) → Contains path port → port < length reads
  on_within port on = rw (← contained_at path port on) (w.trail.in_range on.0 on.1)

  module _ (top : ℕ) (some : 0 < length path) (at_top : top ≡ get_or path (length path - 1) 0) where
    pub last_on : Contains path top
    last_on = contains_at path (length path - 1) top (omega (arith, some)) (sym at_top)

    -- ---- the walk goes back from the last port

    pub gone_back : get_or left top 0 ≡ 0 → HasReached reads seen left (take (length path - 1) path)
    gone_back none = record {
      all_seen = w.all_seen;
      all_left = w.all_left;
      trail = trail_less reads path (length path - 1) (omega arith) w.trail;
      on_path = λ i lt. ap (is_seen seen) (kept_at i (omega (arith, lt, shorter))) ∙ w.on_path i (omega (arith, lt, shorter));
      at_most = w.at_most;
      reached = w.reached;
      finished = finished;
    }
      where
        shorter : length (take (length path - 1) path) ≡ length path - 1
        shorter = simp length-take (omega arith)

        kept_at : (i : ℕ) → i < length path - 1 → get_or (take (length path - 1) path) i 0 ≡ get_or path i 0
        kept_at i lt = get_or-take (length path - 1) path i 0 lt

        finished : (port : ℕ) → is_seen seen port ≡ true → (get_or left port 0 ≡ 0) ⊎ Contains (take (length path - 1) path) port
        finished port done = elim (w.finished port done) [
          | inl zero ↦ inl zero
          | inr on ↦ elim (cases_lt on.0 (length path - 1)) [
            | inl below ↦ inr (contains_at (take (length path - 1) path) on.0 port (omega (arith, below, shorter)) (kept_at on.0 below ∙ contained_at path port on))
            | inr last ↦
                let at_end : on.0 ≡ length path - 1 = omega (arith, last, on.1) in
                let is : port ≡ top = sym (contained_at path port on) ∙ ap (λ k. get_or path k 0) at_end ∙ sym at_top in
                inl (ap (λ p. get_or left p 0) is ∙ none)
          ]
        ]

  -- ---- one more read of a port on the path is looked at

  module _ (top l : ℕ) (on : Contains path top) (was : get_or left top 0 ≡ l + 1) where
    top_within : top < length reads
    top_within = on_within top on

    now_left : get_or (set left top l) top 0 ≡ l
    now_left = get_or-set_same left top l 0 (omega (arith, w.all_left, top_within))

    -- what is looked at now was before, or is the last read that was left
    pub cases_looked : (port j : ℕ) → get_or (set left top l) port 0 ≤ j → (get_or left port 0 ≤ j) ⊎ ((port ≡ top) × (j ≡ l))
    cases_looked port j le = elim (cases_eq port top) [
      | inl same ↦
          let now : get_or (set left top l) port 0 ≡ l = ap (λ p. get_or (set left top l) p 0) same ∙ now_left in
          let before : get_or left port 0 ≡ l + 1 = ap (λ p. get_or left p 0) same ∙ was in
          elim (cases_lt l j) [
            | inl more ↦ inl (omega (arith, before, more))
            | inr last ↦ inr (same, omega (arith, last, le, now))
          ]
      | inr ne ↦ inl (omega (arith, le, get_or-set_other left top port l 0 ne))
    ]

    pub looked_at : is_seen seen (get_or (get_or reads top []) l 0) ≡ true → HasReached reads seen (set left top l) path
    looked_at done = record {
      all_seen = w.all_seen;
      all_left = length-set left top l ∙ w.all_left;
      trail = w.trail;
      on_path = w.on_path;
      at_most = at_most;
      reached = λ port j lt le within. elim (cases_looked port j le) [
        | inl before ↦ w.reached port j lt before within
        | inr (same, is) ↦ rw (same, is) done
      ];
      finished = finished;
    }
      where
        at_most : (port : ℕ) → port < length reads → get_or (set left top l) port 0 ≤ length (get_or reads port [])
        at_most port lt = elim (cases_eq port top) [
          | inl same ↦ rw same (omega (arith, now_left, was, w.at_most top top_within))
          | inr ne ↦ omega (arith, get_or-set_other left top port l 0 ne, w.at_most port lt)
        ]

        finished : (port : ℕ) → is_seen seen port ≡ true → (get_or (set left top l) port 0 ≡ 0) ⊎ Contains path port
        finished port also = elim (cases_eq port top) [
          | inl same ↦ inr (subst (Contains path) (sym same) on)
          | inr ne ↦ elim (w.finished port also) [
            | inl zero ↦ inl (get_or-set_other left top port l 0 ne ∙ zero)
            | inr has ↦ inr has
          ]
        ]

  -- ---- the walk is over

  module _ (over : path ≡ []) where
    pub all_looked : (port : ℕ) → is_seen seen port ≡ true → get_or left port 0 ≡ 0
    all_looked port done = elim (w.finished port done) [
      | inl none ↦ none
      | inr on ↦ absurd (omega (arith, on.1, ap length over))
    ]

    pub reads_seen : (port other : ℕ) → is_seen seen port ≡ true → HasRead reads port other → is_seen seen other ≡ true
    reads_seen port other done has =
        ap (is_seen seen) (sym (contained_at (get_or reads port []) other has)) ∙ w.reached port has.0 (seen_within port done) (omega (arith, all_looked port done)) has.1

-- what was read of whether a port was reached
pub seen_read : (seen : List Bool) (port : ℕ) (b c : Bool) → port < length seen → b ≡ get_or seen port b → b ≡ c → is_seen seen port ≡ c
seen_read seen port b c within read is = sym (get_or_read seen port b within read false) ∙ is

pub seen_set : (seen : List Bool) (port : ℕ) → port < length seen → is_seen (set seen port true) port ≡ true
seen_set seen port within = get_or-set_same seen port true false within
