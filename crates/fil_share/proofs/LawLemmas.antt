-- Holds by legal transactions.
use Rattle.std.proofs.Common.{◌≡◌, ℕ, zero, suc, ◌+◌, ◌-◌, ◌<◌, ◌≤◌, List, [], ◌∷◌, ◌++◌, length, map, get_or, All, ◌∙◌, subst, inl, inr, arith}
use Rattle.std.specs.Prelude.{max}
use Rattle.std.proofs.lemmas.Bool.{cases_lt}
use native.Mathlib.Numerals.{unary_clauses}
use Rattle.std.proofs.lemmas.List.{get_or_default, get_or-map, get_or_append_left, get_or-append-add, length-map, length-append}
use Rattle.std.proofs.lemmas.List.Elements.{All-nil, All-cons, All-map, All-weaker}
use Rattle.fil_share.specs.Sharing.{IsHeld, AreApart, KeepsApart, EndsInPairs, CanShare}
use Rattle.fil_share.specs.Laws.{KeepDelay, IsShort, use_from, uses_from, RulesAreExact}
use Rattle.fil_share.specs.declared.hold.Hold.{Hold}
use Rattle.fil_share.proofs.ListLemmas.{AllPairs-append, AllPairs-map, All-flat_map}

legal_tail : (delay start : ℕ) (starts : List ℕ) → KeepDelay delay (start ∷ starts) → KeepDelay delay starts
legal_tail delay start starts legal k d within = let h = legal (suc k) d (omega arith) in simp unary_clauses (simp unary_clauses at h)

-- each later transaction starts the delay or more after the first
later_starts : (delay start : ℕ) (starts : List ℕ) → KeepDelay delay (start ∷ starts) → All (λ next. start + delay ≤ next) starts
later_starts delay start [] legal = All-nil (λ next. start + delay ≤ next)
later_starts delay start (next ∷ starts) legal =
    let P = λ (row : ℕ). start + delay ≤ row in
    let Q = λ (row : ℕ). next + delay ≤ row in
    let here : start + delay ≤ next = legal 0 0 (omega arith) in
    All-cons P next starts here (All-weaker Q P (λ row h. let g : next + delay ≤ row = h in omega arith) starts (later_starts delay next starts (legal_tail delay start (next ∷ starts) legal)))

-- each use ends within the delay of the start of each
near_at : (delay : ℕ) (uses : List Hold) → EndsInPairs delay uses → All (IsShort delay) uses → (i j : ℕ) (d : Hold) → i < length uses → j < length uses → (get_or uses i d).to ≤ (get_or uses j d).from + delay
near_at delay uses ends short i j d i_in j_in =
    elim (cases_lt i j) [
      | inl less ↦ (ends i j d less j_in).1
      | inr ge ↦ elim (cases_lt j i) [
        | inl more ↦ (ends j i d more i_in).0
        | inr le ↦
            let same : i ≡ j = omega arith in
            subst (λ k. (get_or uses i d).to ≤ (get_or uses k d).from + delay) same (short i d i_in)
      ]
    ]

near : (delay : ℕ) (uses : List Hold) → EndsInPairs delay uses → All (IsShort delay) uses → (i j : ℕ) (d e : Hold) → i < length uses → j < length uses → (get_or uses i d).to ≤ (get_or uses j e).from + delay
near delay uses ends short i j d e i_in j_in =
    subst (λ (h : Hold). (get_or uses i d).to ≤ h.from + delay) (get_or_default uses j d e j_in) (near_at delay uses ends short i j d i_in j_in)

module _ (delay : ℕ) (uses : List Hold) (kept : CanShare delay uses) (short : All (IsShort delay) uses) where
  -- uses by one transaction
  apart_once : (start : ℕ) → KeepsApart (map (use_from start) uses)
  apart_once start =
      AllPairs-map AreApart (use_from start) uses
      (λ i j d less within. elim (kept.0 i j d less within) [ inl h ↦ inl (omega arith) | inr h ↦ inr (omega arith) ])

  -- a use by a transaction, and those by a later one
  apart_later : (start next : ℕ) → start + delay ≤ next → (i : ℕ) (d : Hold) → i < length uses → All (AreApart (use_from start (get_or uses i d))) (map (use_from next) uses)
  apart_later start next later i d i_in =
      All-map (AreApart (use_from start (get_or uses i d))) (use_from next) uses
      (λ j e j_in. let h = near delay uses kept.1 short i j d e i_in j_in in inl (omega arith))

  pub sharing_keeps_apart : (starts : List ℕ) → KeepDelay delay starts → KeepsApart (uses_from uses starts)
  sharing_keeps_apart [] legal = λ i j d less within. absurd (omega arith)
  sharing_keeps_apart (start ∷ starts) legal =
      AllPairs-append AreApart (map (use_from start) uses) (uses_from uses starts) (apart_once start) (sharing_keeps_apart starts (legal_tail delay start starts legal))
      (All-map (λ first. All (AreApart first) (uses_from uses starts)) (use_from start) uses
      (λ i d i_in.
      let first = use_from start (get_or uses i d) in
      All-flat_map (AreApart first) (λ next. map (use_from next) uses) starts
      (All-weaker (λ next. start + delay ≤ next) (λ next. All (AreApart first) (map (use_from next) uses)) (λ next later. apart_later start next later i d i_in) starts (later_starts delay start starts legal))))

legal_one : (delay : ℕ) → KeepDelay delay (0 ∷ [])
legal_one delay k d within = absurd (omega arith)

pub legal_two : (delay gap : ℕ) → delay ≤ gap → KeepDelay delay (0 ∷ gap ∷ [])
legal_two delay gap later zero d within = omega arith
legal_two delay gap later (suc k) d within = absurd (omega arith)

-- a use by the first of several transactions, and by the second
placed_first : (start : ℕ) (uses rest : List Hold) (k : ℕ) (d : Hold) → k < length uses → get_or (map (use_from start) uses ++ rest) k d ≡ use_from start (get_or uses k d)
placed_first start uses rest k d within =
    get_or_append_left (map (use_from start) uses) rest d k (omega (arith, length-map uses (use_from start))) ∙ get_or-map (use_from start) uses k d d within

module _ (delay : ℕ) (uses : List Hold) (held : All IsHeld uses) (apart : (starts : List ℕ) → KeepDelay delay starts → KeepsApart (uses_from uses starts)) where
  apart_in_one : KeepsApart uses
  apart_in_one i j d less within =
      let block = map (use_from 0) uses in
      let size : length (block ++ []) ≡ length uses = length-append block [] ∙ omega (arith, length-map uses (use_from 0)) in
      let h = apart (0 ∷ []) (legal_one delay) i j d less (omega arith) in
      let i_in : i < length uses = omega arith in
      let g = subst (λ a. AreApart a (get_or (block ++ []) j d)) (placed_first 0 uses [] i d i_in) h in
      let f = subst (λ b. AreApart (use_from 0 (get_or uses i d)) b) (placed_first 0 uses [] j d within) g in
      elim f [ inl x ↦ inl (omega (arith, x)) | inr x ↦ inr (omega (arith, x)) ]

  apart_in_two : (gap : ℕ) → delay ≤ gap → (i j : ℕ) (d : Hold) → i < length uses → j < length uses → AreApart (use_from 0 (get_or uses i d)) (use_from gap (get_or uses j d))
  apart_in_two gap later i j d i_in j_in =
      let one = map (use_from 0) uses in
      let two = map (use_from gap) uses in
      let one_size = length-map uses (use_from 0) in
      let two_size = length-map uses (use_from gap) in
      let all_size = length-append one (two ++ []) in
      let rest_size = length-append two [] in
      let h = apart (0 ∷ gap ∷ []) (legal_two delay gap later) i (length one + j) d (omega arith) (omega arith) in
      let g = subst (λ a. AreApart a (get_or (one ++ (two ++ [])) (length one + j) d)) (placed_first 0 uses (two ++ []) i d i_in) h in
      subst (λ b. AreApart (use_from 0 (get_or uses i d)) b) (get_or-append-add one (two ++ []) j d ∙ placed_first gap uses [] j d j_in) g

  within_delay : (i j : ℕ) (d : Hold) → i < length uses → j < length uses → (get_or uses i d).to ≤ (get_or uses j d).from + delay
  within_delay i j d i_in j_in =
      let a = get_or uses i d in
      let b = get_or uses j d in
      let held_a : a.from < a.to = held i d i_in in
      let held_b : b.from < b.to = held j d j_in in
      elim (cases_lt (b.from + delay) a.to) [
        | inr fine ↦ fine
        | inl late ↦
            absurd (elim (apart_in_two (max delay (a.from - b.from)) (omega arith) i j d i_in j_in) [
              | inl x ↦ omega (arith, x, late, held_a, held_b)
              | inr x ↦ omega (arith, x, late, held_a, held_b)
            ])
      ]

  pub rules_are_needed : CanShare delay uses
  rules_are_needed =
      (apart_in_one, λ i j d less within. let i_in : i < length uses = omega arith in (within_delay j i d within i_in, within_delay i j d i_in within))

pub rules_are_exact : RulesAreExact
rules_are_exact delay uses held short = (λ kept. sharing_keeps_apart delay uses kept short, rules_are_needed delay uses held)
