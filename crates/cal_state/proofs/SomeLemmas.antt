-- Where a plan is on, some thread has a token.
use Rattle.std.proofs.Common.{◌≡◌, ◌⊎◌, inl, inr, ℕ, ◌+◌, ◌==◌, List, [], ◌∷◌, ◌++◌, Bool, true, false, ◌&&◌, refl, sym, ap, ap₂, subst, ◌∙◌}
use Rattle.std.specs.Prelude.{Contains, if◌then◌else◌}
use Rattle.std.proofs.lemmas.Bool.{cases_Bool, both_ways, cond-true, cond-false, and_left, and_right, and_from, eq-eqb}
use Rattle.std.proofs.lemmas.List.Elements.{Contains-append_left, Contains-append_right}
use Rattle.cal_ast.proofs.ListLemmas.{Contains-here, Contains-there, Contains-cases_first}
use Rattle.cal_ast.specs.Actors.{Actor}
use Rattle.cal_ast.specs.Plan.{Plan, Enables, InTurn, AtOnce, Chooses, Repeats, Plans, NoPlans, MorePlans}
use Rattle.cal_ast.specs.Tree.{PortName}
use Rattle.cal_walk.specs.Left.{is_over, are_over}
use Rattle.cal_token.specs.inside.Coming.{Leaves, GoesOn, InOrder, Together, OnBranch, OffBranch, InBody, AtTest, LeavesLater, IsStarting, IsOn}
use Rattle.cal_token.specs.inside.Coming.{LeavesInTurn, PastOne, InFirst, InOthers, LeaveOthers, Here, AfterEnded, Later, FirstStarts, Over, ByToken}
use Rattle.cal_token.specs.inside.Coming.{LeaveAtOnce, NoneLeft, OneOver, OneEnded, OneOn}
use Rattle.cal_token.specs.inside.Tokens.{Token, Tokens, Going, Starting, Ended, Again, size}
use Rattle.cal_lower.specs.inside.Parts.{none_if_over}
use Rattle.cal_state.specs.inside.Threads.{Thread, State, Place, NoState, IsIn, place_in, with_start_in, places, places_in_turn, places_after, places_at_once}
use Rattle.cal_state.specs.inside.Threads.{inner_threads, threads_in_turn, threads_at_once, thread_of, ended_state, first_state, lasting_states, states}
use Rattle.cal_state.proofs.OnLemmas.{on, on-append}
use Rattle.cal_state.proofs.PlaceLemmas.{branch}

module _ (v : Tokens) where
  -- this thread or one of these has a token among the places
  pub record HasToken (thread : Thread) (inner : List Thread) (xs : List Place) : Type 0 where
    pub has : Thread
    pub among : Contains (thread ∷ inner) has
    pub state : ℕ
    pub is_on : Contains (on v has.part xs) state

  -- in longer lists
  has_more : (thread : Thread) (ts us : List Thread) (xs ys : List Place) → ((t : Thread) → Contains ts t → Contains us t)
      → ((part state : ℕ) → Contains (on v part xs) state → Contains (on v part ys) state) → HasToken thread ts xs → HasToken thread us ys
  has_more thread ts us xs ys wider further h = record {
    has = h.has;
    among = elim (Contains-cases_first thread ts h.has h.among) [
      | inl same ↦ subst (λ t. Contains (thread ∷ us) t) same (Contains-here thread us)
      | inr there ↦ Contains-there thread us h.has (wider h.has there)
    ];
    state = h.state;
    is_on = further h.has.part h.state h.is_on;
  }

  on_left : (xs ys : List Place) (part state : ℕ) → Contains (on v part xs) state → Contains (on v part (xs ++ ys)) state
  on_left xs ys part state is =
      let C : List ℕ → Type 0 = λ ns. Contains ns state in subst C (sym (on-append v part xs ys)) (Contains-append_left (on v part xs) (on v part ys) state is)

  on_right : (xs ys : List Place) (part state : ℕ) → Contains (on v part ys) state → Contains (on v part (xs ++ ys)) state
  on_right xs ys part state is =
      let C : List ℕ → Type 0 = λ ns. Contains ns state in subst C (sym (on-append v part xs ys)) (Contains-append_right (on v part xs) (on v part ys) state is)

  on_next : (place : Place) (xs : List Place) (part state : ℕ) → Contains (on v part xs) state → Contains (on v part (place ∷ xs)) state
  on_next NoState xs part state is = is
  on_next (IsIn token s) xs part state is = by ((s.thread.part == part) && v token)
    where
      by : (b : Bool) → Contains (if b then s.number ∷ on v part xs else on v part xs) state
      by true = Contains-there s.number (on v part xs) state is
      by false = is

  has_left : (thread : Thread) (ts us : List Thread) (xs ys : List Place) → HasToken thread ts xs → HasToken thread (ts ++ us) (xs ++ ys)
  has_left thread ts us xs ys h = has_more thread ts (ts ++ us) xs (xs ++ ys) (λ t is. Contains-append_left ts us t is) (on_left xs ys) h

  has_right : (thread : Thread) (ts us : List Thread) (xs ys : List Place) → HasToken thread us ys → HasToken thread (ts ++ us) (xs ++ ys)
  has_right thread ts us xs ys h = has_more thread us (ts ++ us) ys (xs ++ ys) (λ t is. Contains-append_right ts us t is) (on_right xs ys) h

  has_threads : (thread : Thread) (ts us : List Thread) (xs : List Place) → HasToken thread us xs → HasToken thread (ts ++ us) xs
  has_threads thread ts us xs h = has_right thread ts us [] xs h

  has_next : (thread : Thread) (ts : List Thread) (place : Place) (xs : List Place) → HasToken thread ts xs → HasToken thread ts (place ∷ xs)
  has_next thread ts place xs h = has_more thread ts ts xs (place ∷ xs) (λ t is. is) (on_next place xs) h

  -- the first token is there
  has_first : (thread : Thread) (ts : List Thread) (token : Token) (n : ℕ) (xs : List Place) → v token ≡ true → HasToken thread ts (place_in token thread n ∷ xs)
  has_first thread ts token n xs is = record {
    has = thread;
    among = Contains-here thread ts;
    state = n;
    is_on =
        let C : List ℕ → Type 0 = λ ns. Contains ns n in
        subst C (sym (cond-true ((thread.part == thread.part) && v token) (n ∷ on v thread.part xs) (on v thread.part xs)
        (and_from (thread.part == thread.part) (v token) (eq-eqb thread.part thread.part refl) is))) (Contains-here n (on v thread.part xs));
  }

  has_unless : (thread : Thread) (ts : List Thread) (p : Plan) (xs : List Place) → is_over p ≡ false → HasToken thread ts xs → HasToken thread ts (none_if_over p xs)
  has_unless thread ts p xs more h = let H : List Place → Type 0 = λ ys. HasToken thread ts ys in subst H (sym (cond-false (is_over p) [] xs more)) h

  has_if_over : (thread : Thread) (ts : List Thread) (b : Bool) (xs ys : List Place) → b ≡ true → HasToken thread ts xs → HasToken thread ts (if b then xs else ys)
  has_if_over thread ts b xs ys over h = let H : List Place → Type 0 = λ zs. HasToken thread ts zs in subst H (sym (cond-true b xs ys over)) h

  has_if_more : (thread : Thread) (ts : List Thread) (b : Bool) (xs ys : List Place) → b ≡ false → HasToken thread ts ys → HasToken thread ts (if b then xs else ys)
  has_if_more thread ts b xs ys more h = let H : List Place → Type 0 = λ zs. HasToken thread ts zs in subst H (sym (cond-false b xs ys more)) h

  -- a branch's thread is one of those that stand inside
  has_branch : (thread : Thread) (k : ℕ) (p : Plan) (us : List Thread) (ys : List Place) → is_over p ≡ false → HasToken (thread_of k p) (inner_threads k p) (branch k p)
      → HasToken thread (none_if_over p (thread_of k p ∷ inner_threads k p) ++ us) (none_if_over p (branch k p) ++ ys)
  has_branch thread k p us ys more h =
      let ts : List Thread = thread_of k p ∷ inner_threads k p in
      let here : HasToken thread ts (branch k p) = record { has = h.has; among = Contains-there thread ts h.has h.among; state = h.state; is_on = h.is_on } in
      let H : List Thread → Type 0 = λ all. HasToken thread all (none_if_over p (branch k p)) in
      has_left thread (none_if_over p ts) us (none_if_over p (branch k p)) ys (subst H (sym (cond-false (is_over p) [] ts more)) (has_unless thread ts p (branch k p) more here))

  -- one of plans in turn that starts by its own token
  some_here : (thread : Thread) (n k : ℕ) (p : Plan) (others : Plans) → is_over p ≡ false → HasToken thread (inner_threads k p) (with_start_in thread n k p (places thread n k p))
      → HasToken thread (threads_in_turn k (MorePlans p others)) (places_after thread n k (MorePlans p others))
  some_here thread n k p others more h =
      has_if_more thread (inner_threads k p ++ threads_in_turn (k + size p) others) (is_over p) (places_after thread n (k + size p) others)
      (with_start_in thread n k p (places thread n k p) ++ places_after thread (n + states p) (k + size p) others) more
      (has_left thread (inner_threads k p) (threads_in_turn (k + size p) others) (with_start_in thread n k p (places thread n k p)) (places_after thread (n + states p) (k + size p) others) h)

  later_more : (k : ℕ) (p rest : Plan) → LeavesLater v k p rest → is_over p ≡ false
  later_more k p rest (IsStarting _ _ more starts off) = more
  later_more k p rest (IsOn _ _ _ more starts leaves) = more

  others_more : (ended : Plan) (lefts : Plans) → is_over ended ≡ true → (is_over ended && are_over lefts) ≡ false → are_over lefts ≡ false
  others_more ended lefts over more = sym (ap (λ b. b && are_over lefts) over) ∙ more

  mutual
    pub some_token : (thread : Thread) (n k : ℕ) (p rest : Plan) → Leaves v k p rest → HasToken thread (inner_threads k p) (places thread n k p)
    some_token thread n k p rest (GoesOn _ actor going) =
        has_next thread _ NoState _
        (has_first thread [] (Going k) n [] going)
    some_token thread n k p rest (InOrder _ ps _ leaves) =
        has_next thread _ NoState _
        (some_in_turn thread (n + 1) (k + 1) ps rest leaves)
    some_token thread n k p rest (Together _ ps rests more leave) =
        has_next thread _ NoState _
        (some_at_once thread (k + 1) ps rests more leave)
    some_token thread n k p rest (OnBranch _ port by on' off' _ leaves away) =
        has_next thread _ NoState _
        (has_left thread (inner_threads (k + 1) on') (inner_threads (k + 1 + size on') off') (with_start_in thread (n + 1) (k + 1) on' (places thread (n + 1) (k + 1) on'))
        (with_start_in thread (n + 1 + lasting_states on') (k + 1 + size on') off' (places thread (n + 1 + lasting_states on') (k + 1 + size on') off'))
        (some_later thread (n + 1) (k + 1) on' rest leaves))
    some_token thread n k p rest (OffBranch _ port by on' off' _ away leaves) =
        has_next thread _ NoState _
        (has_right thread (inner_threads (k + 1) on') (inner_threads (k + 1 + size on') off') (with_start_in thread (n + 1) (k + 1) on' (places thread (n + 1) (k + 1) on'))
        (with_start_in thread (n + 1 + lasting_states on') (k + 1 + size on') off' (places thread (n + 1 + lasting_states on') (k + 1 + size on') off'))
        (some_later thread (n + 1 + lasting_states on') (k + 1 + size on') off' rest leaves))
    some_token thread n k p rest (InBody _ port by body turn again leaves) =
        has_next thread _ NoState _
        (has_next thread (inner_threads (k + 1) body) (place_in (Again k) thread n) (with_start_in thread (n + 1) (k + 1) body (places thread (n + 1) (k + 1) body))
        (some_later thread (n + 1) (k + 1) body turn leaves))
    some_token thread n k p rest (AtTest _ port by body ended again away over) =
        has_next thread _ NoState _
        (has_first thread (inner_threads (k + 1) body) (Again k) n (with_start_in thread (n + 1) (k + 1) body (places thread (n + 1) (k + 1) body)) again)

    some_later : (thread : Thread) (n k : ℕ) (p rest : Plan) → LeavesLater v k p rest → HasToken thread (inner_threads k p) (with_start_in thread n k p (places thread n k p))
    some_later thread n k p rest (IsStarting _ _ more starts off) =
        has_unless thread (inner_threads k p) p (place_in (Starting k) thread n ∷ places thread n k p) more
        (has_first thread (inner_threads k p) (Starting k) n (places thread n k p) starts)
    some_later thread n k p rest (IsOn _ _ _ more starts leaves) =
        has_unless thread (inner_threads k p) p (place_in (Starting k) thread n ∷ places thread n k p) more
        (has_next thread (inner_threads k p) (place_in (Starting k) thread n) (places thread n k p) (some_token thread n k p rest leaves))

    some_in_turn : (thread : Thread) (n k : ℕ) (ps : Plans) (rest : Plan) → LeavesInTurn v k ps rest → HasToken thread (threads_in_turn k ps) (places_in_turn thread n k ps)
    some_in_turn thread n k ps rest (PastOne _ p others _ over leaves) =
        has_threads thread (inner_threads k p) (threads_in_turn (k + size p) others) _
        (has_if_over thread (threads_in_turn (k + size p) others) (is_over p) (places_in_turn thread n (k + size p) others) (places thread n k p ++ places_after thread (n + states p) (k + size p) others) over
        (some_in_turn thread n (k + size p) others rest leaves))
    some_in_turn thread n k ps rest (InFirst _ p others first more leaves away) =
        has_if_more thread (inner_threads k p ++ threads_in_turn (k + size p) others) (is_over p) (places_in_turn thread n (k + size p) others)
        (places thread n k p ++ places_after thread (n + states p) (k + size p) others) more
        (has_left thread (inner_threads k p) (threads_in_turn (k + size p) others) (places thread n k p) (places_after thread (n + states p) (k + size p) others) (some_token thread n k p first leaves))
    some_in_turn thread n k ps rest (InOthers _ p others _ more off leave) =
        has_if_more thread (inner_threads k p ++ threads_in_turn (k + size p) others) (is_over p) (places_in_turn thread n (k + size p) others)
        (places thread n k p ++ places_after thread (n + states p) (k + size p) others) more
        (has_right thread (inner_threads k p) (threads_in_turn (k + size p) others) (places thread n k p) (places_after thread (n + states p) (k + size p) others)
        (some_others thread (n + states p) (k + size p) others rest leave))

    some_others : (thread : Thread) (n k : ℕ) (ps : Plans) (rest : Plan) → LeaveOthers v k ps rest → HasToken thread (threads_in_turn k ps) (places_after thread n k ps)
    some_others thread n k ps rest (Here _ p others first leaves away) = some_here thread n k p others (later_more k p first leaves) (some_later thread n k p first leaves)
    some_others thread n k ps rest (AfterEnded _ _ ended over first) = some_starts thread n k ps first
    some_others thread n k ps rest (Later _ p others _ off leave) = elim (cases_Bool (is_over p)) [
      | inl over ↦ has_threads thread (inner_threads k p) (threads_in_turn (k + size p) others) _
          (has_if_over thread (threads_in_turn (k + size p) others) (is_over p) (places_after thread n (k + size p) others)
          (with_start_in thread n k p (places thread n k p) ++ places_after thread (n + states p) (k + size p) others) over (some_others thread n (k + size p) others rest leave))
      | inr more ↦ has_if_more thread (inner_threads k p ++ threads_in_turn (k + size p) others) (is_over p) (places_after thread n (k + size p) others)
          (with_start_in thread n k p (places thread n k p) ++ places_after thread (n + states p) (k + size p) others) more
          (has_right thread (inner_threads k p) (threads_in_turn (k + size p) others) (with_start_in thread n k p (places thread n k p)) (places_after thread (n + states p) (k + size p) others)
          (some_others thread (n + states p) (k + size p) others rest leave))
    ]

    some_starts : (thread : Thread) (n k : ℕ) (ps : Plans) → FirstStarts v k ps → HasToken thread (threads_in_turn k ps) (places_after thread n k ps)
    some_starts thread n k ps (Over _ p others over first) =
        has_threads thread (inner_threads k p) (threads_in_turn (k + size p) others) _
        (has_if_over thread (threads_in_turn (k + size p) others) (is_over p) (places_after thread n (k + size p) others)
        (with_start_in thread n k p (places thread n k p) ++ places_after thread (n + states p) (k + size p) others) over (some_starts thread n (k + size p) others first))
    some_starts thread n k ps (ByToken _ p others more starts off away) =
        some_here thread n k p others more
        (has_unless thread (inner_threads k p) p (place_in (Starting k) thread n ∷ places thread n k p) more
        (has_first thread (inner_threads k p) (Starting k) n (places thread n k p) starts))

    some_at_once : (thread : Thread) (k : ℕ) (ps rests : Plans) → are_over rests ≡ false → LeaveAtOnce v k ps rests → HasToken thread (threads_at_once k ps) (places_at_once k ps)
    some_at_once thread k ps rests more (NoneLeft _) = absurd (both_ways true more refl)
    some_at_once thread k ps rests more (OneOver _ p ended others lefts over ends leave) =
        has_right thread (none_if_over p (thread_of k p ∷ inner_threads k p)) (threads_at_once (k + size p) others) (none_if_over p (branch k p)) (places_at_once (k + size p) others)
        (some_at_once thread (k + size p) others lefts (others_more ended lefts ends more) leave)
    some_at_once thread k ps rests more (OneEnded _ p ended others lefts lasts has off ends leave) =
        has_branch thread k p (threads_at_once (k + size p) others) (places_at_once (k + size p) others) lasts
        (has_first (thread_of k p) (inner_threads k p) (Ended k) ended_state (places (thread_of k p) first_state k p) has)
    some_at_once thread k ps rests more (OneOn _ p first others lefts lasts has leaves leave) =
        has_branch thread k p (threads_at_once (k + size p) others) (places_at_once (k + size p) others) lasts
        (has_next (thread_of k p) (inner_threads k p) (place_in (Ended k) (thread_of k p) ended_state) (places (thread_of k p) first_state k p)
        (some_token (thread_of k p) first_state k p first leaves))
