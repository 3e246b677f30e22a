-- Which states of a thread have their tokens: none where a plan is off, and at most one where it is on.
use Rattle.std.proofs.Common.{◌≡◌, ◌⊎◌, inl, inr, ℕ, ◌+◌, ◌<◌, ◌≤◌, ◌==◌, List, [], ◌∷◌, ◌++◌, length, Bool, true, false, ◌&&◌, refl, sym, ap, ap₂, subst, ◌∙◌, arith, length-append}
use Rattle.std.specs.Prelude.{if◌then◌else◌}
use Rattle.std.proofs.lemmas.Bool.{cases_Bool, cond-true, cond-false, both_ways, and_left, and_right, cases_lt, ne_eqb}
use Rattle.cal_ast.specs.Actors.{Actor}
use Rattle.cal_ast.specs.Plan.{Plan, Enables, InTurn, AtOnce, Chooses, Repeats, Plans, NoPlans, MorePlans}
use Rattle.cal_ast.specs.Tree.{PortName}
use Rattle.cal_walk.specs.Left.{is_over, are_over}
use Rattle.cal_token.specs.inside.Coming.{IsOff, FirstIsOff, OthersAreOff, AllAreOff, IsLaterOff}
use Rattle.cal_token.specs.inside.Coming.{Leaves, GoesOn, InOrder, Together, OnBranch, OffBranch, InBody, AtTest, LeavesLater, IsStarting, IsOn}
use Rattle.cal_token.specs.inside.Coming.{LeavesInTurn, PastOne, InFirst, InOthers, LeaveOthers, Here, AfterEnded, Later, FirstStarts, Over, ByToken}
use Rattle.cal_token.specs.inside.Coming.{LeaveAtOnce, NoneLeft, OneOver, OneEnded, OneOn}
use Rattle.cal_token.specs.inside.Tokens.{Token, Tokens, Going, Starting, Ended, Again, WithStart, size, sizes}
use Rattle.cal_token.proofs.TestLemmas.{of_true, of_false}
use Rattle.cal_lower.specs.inside.Parts.{none_if_over}
use Rattle.cal_state.specs.inside.Threads.{Thread, State, Place, NoState, IsIn, place_in, with_start_in, places, places_in_turn, places_after, places_at_once}
use Rattle.cal_state.specs.inside.Threads.{thread_of, ended_state, first_state, lasting_states, states, states_in}
use Rattle.cal_state.proofs.PlaceLemmas.{Lies, EachLies, branch, branch_lies, lies_at_once}

-- the states of the thread with this part whose tokens are there
abbrev pub on : Tokens → ℕ → List Place → List ℕ
on v t [] = []
on v t (NoState ∷ xs) = on v t xs
on v t (IsIn token state ∷ xs) = if (state.thread.part == t) && v token then state.number ∷ on v t xs else on v t xs

module _ (v : Tokens) (t : ℕ) where
  pub on-append : (xs ys : List Place) → on v t (xs ++ ys) ≡ on v t xs ++ on v t ys
  on-append [] ys = refl
  on-append (NoState ∷ xs) ys = on-append xs ys
  on-append (IsIn token state ∷ xs) ys = by ((state.thread.part == t) && v token) (on-append xs ys)
    where
      by : (b : Bool) → on v t (xs ++ ys) ≡ on v t xs ++ on v t ys
          → (if b then state.number ∷ on v t (xs ++ ys) else on v t (xs ++ ys)) ≡ (if b then state.number ∷ on v t xs else on v t xs) ++ on v t ys
      by true same = ap (λ ns. state.number ∷ ns) same
      by false same = same

  -- none in two lists is none in both
  pub none_append : (xs ys : List Place) → on v t xs ≡ [] → on v t ys ≡ [] → on v t (xs ++ ys) ≡ []
  none_append xs ys one other = on-append xs ys ∙ ap₂ (λ (a b : List ℕ). a ++ b) one other

  abbrev pub Few : List Place → Type 0
  Few xs = length (on v t xs) ≤ 1

  pub none_few : (xs : List Place) → on v t xs ≡ [] → Few xs
  none_few xs none = let F : List ℕ → Type 0 = λ ns. length ns ≤ 1 in subst F (sym none) (omega arith)

  pub few_left : (xs ys : List Place) → Few xs → on v t ys ≡ [] → Few (xs ++ ys)
  few_left xs ys few none =
      let sum = ap (λ (ns : List ℕ). length ns) (on-append xs ys) ∙ length-append (on v t xs) (on v t ys) in
      let zero = ap (λ (ns : List ℕ). length ns) none in
      omega (arith, few, sum, zero)

  pub few_right : (xs ys : List Place) → on v t xs ≡ [] → Few ys → Few (xs ++ ys)
  few_right xs ys none few =
      let sum = ap (λ (ns : List ℕ). length ns) (on-append xs ys) ∙ length-append (on v t xs) (on v t ys) in
      let zero = ap (λ (ns : List ℕ). length ns) none in
      omega (arith, few, sum, zero)

  -- a token that isn't there
  pub off_first : (token : Token) (thread : Thread) (n : ℕ) (xs : List Place) → v token ≡ false → on v t (place_in token thread n ∷ xs) ≡ on v t xs
  off_first token thread n xs off = cond-false ((thread.part == t) && v token) (n ∷ on v t xs) (on v t xs) (and_right (thread.part == t) (v token) off)

  pub none_first : (token : Token) (thread : Thread) (n : ℕ) (xs : List Place) → v token ≡ false → on v t xs ≡ [] → on v t (place_in token thread n ∷ xs) ≡ []
  none_first token thread n xs off none = off_first token thread n xs off ∙ none

  few_first : (token : Token) (thread : Thread) (n : ℕ) (xs : List Place) → v token ≡ false → Few xs → Few (place_in token thread n ∷ xs)
  few_first token thread n xs off few = let F : List ℕ → Type 0 = λ ns. length ns ≤ 1 in subst F (sym (off_first token thread n xs off)) few

  -- one that may be, and no other
  one_first : (token : Token) (thread : Thread) (n : ℕ) (xs : List Place) → on v t xs ≡ [] → Few (place_in token thread n ∷ xs)
  one_first token thread n xs none = by ((thread.part == t) && v token)
    where
      by : (b : Bool) → length (if b then n ∷ on v t xs else on v t xs) ≤ 1
      by true = let zero = ap (λ (ns : List ℕ). length ns) none in omega (arith, zero)
      by false = let zero = ap (λ (ns : List ℕ). length ns) none in omega (arith, zero)

  none_unless : (p : Plan) (xs : List Place) → (is_over p ≡ false → on v t xs ≡ []) → on v t (none_if_over p xs) ≡ []
  none_unless p xs f = by (is_over p) f
    where
      by : (b : Bool) → (b ≡ false → on v t xs ≡ []) → on v t (if b then [] else xs) ≡ []
      by true g = refl
      by false g = g refl

  few_unless : (p : Plan) (xs : List Place) → (is_over p ≡ false → Few xs) → Few (none_if_over p xs)
  few_unless p xs f = by (is_over p) f
    where
      by : (b : Bool) → (b ≡ false → Few xs) → Few (if b then [] else xs)
      by true g = omega arith
      by false g = g refl

  none_by : (b : Bool) (xs ys : List Place) → (b ≡ true → on v t xs ≡ []) → (b ≡ false → on v t ys ≡ []) → on v t (if b then xs else ys) ≡ []
  none_by true xs ys f g = f refl
  none_by false xs ys f g = g refl

  -- ---- a plan that is off

  later_none : (thread : Thread) (n k : ℕ) (p : Plan) → (IsOff v k p → on v t (places thread n k p) ≡ []) → IsLaterOff v k p
      → on v t (with_start_in thread n k p (places thread n k p)) ≡ []
  later_none thread n k p f off =
      none_unless p (place_in (Starting k) thread n ∷ places thread n k p) (λ more.
      let h : (v (Starting k) ≡ false) × IsOff v k p = of_false (is_over p) (Unit {0}) ((v (Starting k) ≡ false) × IsOff v k p) more off in
      none_first (Starting k) thread n (places thread n k p) h.0 (f h.1))

  mutual
    pub off_none : (thread : Thread) (n k : ℕ) (p : Plan) → IsOff v k p → on v t (places thread n k p) ≡ []
    off_none thread n k (Enables actor) off = none_first (Going k) thread n [] off refl
    off_none thread n k (InTurn ps) off = first_none thread (n + 1) (k + 1) ps off
    off_none thread n k (AtOnce ps) off = all_none (k + 1) ps off
    off_none thread n k (Chooses port by on' off') off =
        none_append (with_start_in thread (n + 1) (k + 1) on' (places thread (n + 1) (k + 1) on'))
        (with_start_in thread (n + 1 + lasting_states on') (k + 1 + size on') off' (places thread (n + 1 + lasting_states on') (k + 1 + size on') off'))
        (later_none thread (n + 1) (k + 1) on' (λ h. off_none thread (n + 1) (k + 1) on' h) off.0)
        (later_none thread (n + 1 + lasting_states on') (k + 1 + size on') off' (λ h. off_none thread (n + 1 + lasting_states on') (k + 1 + size on') off' h) off.1)
    off_none thread n k (Repeats port by body) off =
        none_first (Again k) thread n (with_start_in thread (n + 1) (k + 1) body (places thread (n + 1) (k + 1) body)) off.0
        (later_none thread (n + 1) (k + 1) body (λ h. off_none thread (n + 1) (k + 1) body h) off.1)

    first_none : (thread : Thread) (n k : ℕ) (ps : Plans) → FirstIsOff v k ps → on v t (places_in_turn thread n k ps) ≡ []
    first_none thread n k NoPlans off = refl
    first_none thread n k (MorePlans p ps) off =
        let P = FirstIsOff v (k + size p) ps in
        let Q = IsOff v k p × OthersAreOff v (k + size p) ps in
        none_by (is_over p) _ _ (λ over. first_none thread n (k + size p) ps (of_true (is_over p) P Q over off))
        (λ more.
        let h : IsOff v k p × OthersAreOff v (k + size p) ps = of_false (is_over p) P Q more off in
        none_append (places thread n k p) (places_after thread (n + states p) (k + size p) ps) (off_none thread n k p h.0)
        (others_none thread (n + states p) (k + size p) ps h.1))

    pub others_none : (thread : Thread) (n k : ℕ) (ps : Plans) → OthersAreOff v k ps → on v t (places_after thread n k ps) ≡ []
    others_none thread n k NoPlans off = refl
    others_none thread n k (MorePlans p ps) off =
        none_by (is_over p) _ _ (λ over. others_none thread n (k + size p) ps off.1)
        (λ more. none_append (with_start_in thread n k p (places thread n k p)) (places_after thread (n + states p) (k + size p) ps)
        (later_none thread n k p (λ h. off_none thread n k p h) off.0) (others_none thread (n + states p) (k + size p) ps off.1))

    all_none : (k : ℕ) (ps : Plans) → AllAreOff v k ps → on v t (places_at_once k ps) ≡ []
    all_none k NoPlans off = refl
    all_none k (MorePlans p ps) off =
        none_append (none_if_over p (place_in (Ended k) (thread_of k p) ended_state ∷ places (thread_of k p) first_state k p)) (places_at_once (k + size p) ps)
        (none_unless p (place_in (Ended k) (thread_of k p) ended_state ∷ places (thread_of k p) first_state k p) (λ more.
        let h : IsOff v k p × (v (Ended k) ≡ false) = of_false (is_over p) (Unit {0}) (IsOff v k p × (v (Ended k) ≡ false)) more off.0 in
        none_first (Ended k) (thread_of k p) ended_state (places (thread_of k p) first_state k p) h.1 (off_none (thread_of k p) first_state k p h.0)))
        (all_none (k + size p) ps off.1)

  later_is_none : (thread : Thread) (n k : ℕ) (p : Plan) → IsLaterOff v k p → on v t (with_start_in thread n k p (places thread n k p)) ≡ []
  later_is_none thread n k p off = later_none thread n k p (λ h. off_none thread n k p h) off

  -- ---- places of other threads

  -- where the thread isn't this one and its part isn't in the range
  pub none_outside : (thread low high first last : ℕ) (xs : List Place) → EachLies thread low high first last xs → (thread ≡ t → ⊥) → (first ≤ t → t < last → ⊥)
      → on v t xs ≡ []
  none_outside thread low high first last [] each other outside = refl
  none_outside thread low high first last (NoState ∷ xs) each other outside = none_outside thread low high first last xs each.1 other outside
  none_outside thread low high first last (IsIn token state ∷ xs) each other outside =
      cond-false ((state.thread.part == t) && v token) (state.number ∷ on v t xs) (on v t xs)
      (and_left (state.thread.part == t) (v token) (ne_eqb state.thread.part t (apart each.0)))
      ∙ none_outside thread low high first last xs each.1 other outside
    where
      apart : Lies thread low high first last (IsIn token state) → state.thread.part ≡ t → ⊥
      apart (inl (own, from, below)) same = other (sym own ∙ same)
      apart (inr (from, below)) same = outside (omega (arith, from, same)) (omega (arith, below, same))

  -- branches that are apart: the thread is in one of them at most
  few_apart : (k : ℕ) (p : Plan) (ps : Plans) → Few (none_if_over p (branch k p)) → Few (places_at_once (k + size p) ps)
      → Few (none_if_over p (branch k p) ++ places_at_once (k + size p) ps)
  few_apart k p ps one others = elim (cases_lt t (k + size p)) [
    | inl before ↦ few_left (none_if_over p (branch k p)) (places_at_once (k + size p) ps) one
        (none_outside (t + 1) 0 0 (k + size p) (k + size p + sizes ps) (places_at_once (k + size p) ps) (lies_at_once (t + 1) 0 0 (k + size p) ps)
        (λ e. absurd (omega (arith, e))) (λ from below. absurd (omega (arith, before, from))))
    | inr after ↦ few_right (none_if_over p (branch k p)) (places_at_once (k + size p) ps)
        (none_unless p (branch k p) (λ more.
        none_outside (t + 1) 0 0 k (k + size p) (branch k p) (branch_lies (t + 1) 0 0 k p) (λ e. absurd (omega (arith, e))) (λ from below. absurd (omega (arith, after, below)))))
        others
  ]

  -- ---- a plan that is on

  few_if : (b : Bool) (xs ys : List Place) → (b ≡ true → Few xs) → (b ≡ false → Few ys) → Few (if b then xs else ys)
  few_if true xs ys f g = f refl
  few_if false xs ys f g = g refl

  few_if_over : (b : Bool) (xs ys : List Place) → b ≡ true → Few xs → Few (if b then xs else ys)
  few_if_over b xs ys over few = few_if b xs ys (λ e. few) (λ more. absurd (both_ways b more over))

  few_if_more : (b : Bool) (xs ys : List Place) → b ≡ false → Few ys → Few (if b then xs else ys)
  few_if_more b xs ys more few = few_if b xs ys (λ over. absurd (both_ways b more over)) (λ e. few)

  mutual
    pub few_on : (thread : Thread) (n k : ℕ) (p rest : Plan) → Leaves v k p rest → Few (places thread n k p)
    few_on thread n k p rest (GoesOn _ actor going) = one_first (Going k) thread n [] refl
    few_on thread n k p rest (InOrder _ ps _ leaves) = few_in_turn thread (n + 1) (k + 1) ps rest leaves
    few_on thread n k p rest (Together _ ps rests more leave) = few_at_once (k + 1) ps rests leave
    few_on thread n k p rest (OnBranch _ port by on' off' _ leaves away) =
        few_left (with_start_in thread (n + 1) (k + 1) on' (places thread (n + 1) (k + 1) on'))
        (with_start_in thread (n + 1 + lasting_states on') (k + 1 + size on') off' (places thread (n + 1 + lasting_states on') (k + 1 + size on') off'))
        (few_later thread (n + 1) (k + 1) on' rest leaves) (later_is_none thread (n + 1 + lasting_states on') (k + 1 + size on') off' away)
    few_on thread n k p rest (OffBranch _ port by on' off' _ away leaves) =
        few_right (with_start_in thread (n + 1) (k + 1) on' (places thread (n + 1) (k + 1) on'))
        (with_start_in thread (n + 1 + lasting_states on') (k + 1 + size on') off' (places thread (n + 1 + lasting_states on') (k + 1 + size on') off'))
        (later_is_none thread (n + 1) (k + 1) on' away) (few_later thread (n + 1 + lasting_states on') (k + 1 + size on') off' rest leaves)
    few_on thread n k p rest (InBody _ port by body turn again leaves) =
        few_first (Again k) thread n (with_start_in thread (n + 1) (k + 1) body (places thread (n + 1) (k + 1) body)) again (few_later thread (n + 1) (k + 1) body turn leaves)
    few_on thread n k p rest (AtTest _ port by body ended again away over) =
        one_first (Again k) thread n (with_start_in thread (n + 1) (k + 1) body (places thread (n + 1) (k + 1) body)) (later_is_none thread (n + 1) (k + 1) body away)

    few_later : (thread : Thread) (n k : ℕ) (p rest : Plan) → LeavesLater v k p rest → Few (with_start_in thread n k p (places thread n k p))
    few_later thread n k p rest (IsStarting _ _ more starts off) =
        few_unless p (place_in (Starting k) thread n ∷ places thread n k p) (λ m. one_first (Starting k) thread n (places thread n k p) (off_none thread n k p off))
    few_later thread n k p rest (IsOn _ _ _ more starts leaves) =
        few_unless p (place_in (Starting k) thread n ∷ places thread n k p)
        (λ m. few_first (Starting k) thread n (places thread n k p) starts (few_on thread n k p rest leaves))

    few_in_turn : (thread : Thread) (n k : ℕ) (ps : Plans) (rest : Plan) → LeavesInTurn v k ps rest → Few (places_in_turn thread n k ps)
    few_in_turn thread n k ps rest (PastOne _ p others _ over leaves) =
        few_if_over (is_over p) _ _ over (few_in_turn thread n (k + size p) others rest leaves)
    few_in_turn thread n k ps rest (InFirst _ p others first more leaves away) =
        few_if_more (is_over p) _ _ more
        (few_left (places thread n k p) (places_after thread (n + states p) (k + size p) others) (few_on thread n k p first leaves)
        (others_none thread (n + states p) (k + size p) others away))
    few_in_turn thread n k ps rest (InOthers _ p others _ more off leave) =
        few_if_more (is_over p) _ _ more
        (few_right (places thread n k p) (places_after thread (n + states p) (k + size p) others) (off_none thread n k p off)
        (few_others thread (n + states p) (k + size p) others rest leave))

    few_others : (thread : Thread) (n k : ℕ) (ps : Plans) (rest : Plan) → LeaveOthers v k ps rest → Few (places_after thread n k ps)
    few_others thread n k ps rest (Here _ p others first leaves away) =
        few_if (is_over p) _ _ (λ over. none_few (places_after thread n (k + size p) others) (others_none thread n (k + size p) others away))
        (λ more.
        few_left (with_start_in thread n k p (places thread n k p)) (places_after thread (n + states p) (k + size p) others) (few_later thread n k p first leaves)
        (others_none thread (n + states p) (k + size p) others away))
    few_others thread n k ps rest (AfterEnded _ _ ended over first) = few_first_starts thread n k ps first
    few_others thread n k ps rest (Later _ p others _ off leave) =
        few_if (is_over p) _ _ (λ over. few_others thread n (k + size p) others rest leave)
        (λ more.
        few_right (with_start_in thread n k p (places thread n k p)) (places_after thread (n + states p) (k + size p) others) (later_is_none thread n k p off)
        (few_others thread (n + states p) (k + size p) others rest leave))

    few_first_starts : (thread : Thread) (n k : ℕ) (ps : Plans) → FirstStarts v k ps → Few (places_after thread n k ps)
    few_first_starts thread n k ps (Over _ p others over first) =
        few_if_over (is_over p) _ _ over (few_first_starts thread n (k + size p) others first)
    few_first_starts thread n k ps (ByToken _ p others more starts off away) =
        few_if_more (is_over p) _ _ more
        (few_left (with_start_in thread n k p (places thread n k p)) (places_after thread (n + states p) (k + size p) others)
        (few_unless p (place_in (Starting k) thread n ∷ places thread n k p) (λ m. one_first (Starting k) thread n (places thread n k p) (off_none thread n k p off)))
        (others_none thread (n + states p) (k + size p) others away))

    few_at_once : (k : ℕ) (ps rests : Plans) → LeaveAtOnce v k ps rests → Few (places_at_once k ps)
    few_at_once k ps rests (NoneLeft _) = omega arith
    few_at_once k ps rests (OneOver _ p ended others lefts over ends leave) =
        few_apart k p others (none_few (none_if_over p (branch k p)) (none_unless p (branch k p) (λ more. absurd (both_ways (is_over p) more over))))
        (few_at_once (k + size p) others lefts leave)
    few_at_once k ps rests (OneEnded _ p ended others lefts more has off ends leave) =
        few_apart k p others
        (few_unless p (branch k p) (λ m. one_first (Ended k) (thread_of k p) ended_state (places (thread_of k p) first_state k p) (off_none (thread_of k p) first_state k p off)))
        (few_at_once (k + size p) others lefts leave)
    few_at_once k ps rests (OneOn _ p first others lefts more has leaves leave) =
        few_apart k p others
        (few_unless p (branch k p)
        (λ m. few_first (Ended k) (thread_of k p) ended_state (places (thread_of k p) first_state k p) has (few_on (thread_of k p) first_state k p first leaves)))
        (few_at_once (k + size p) others lefts leave)
