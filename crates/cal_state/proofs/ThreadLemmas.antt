-- The threads of a plan: their parts are apart, and each place is a state of one of them.
use Rattle.std.proofs.Common.{◌≡◌, inl, inr, ℕ, ◌+◌, ◌<◌, ◌≤◌, List, [], ◌∷◌, ◌++◌, Bool, true, false, subst, arith}
use Rattle.std.specs.Prelude.{Contains, if◌then◌else◌}
use Rattle.std.proofs.lemmas.List.Elements.{Contains-append_left, Contains-append_right}
use Rattle.cal_ast.proofs.ListLemmas.{Contains-here, Contains-there, Contains-cases_first}
use Rattle.cal_ast.specs.Plan.{Plan, Enables, InTurn, AtOnce, Chooses, Repeats, Plans, NoPlans, MorePlans}
use Rattle.cal_walk.specs.Left.{is_over}
use Rattle.cal_token.specs.inside.Tokens.{Starting, size, sizes}
use Rattle.cal_lower.specs.inside.Parts.{none_if_over}
use Rattle.cal_lower.proofs.ListLemmas.{Each, each_append, each_weaker}
use Rattle.cal_state.specs.inside.Threads.{Thread, Place, NoState, IsIn, place_in, with_start_in, places, places_in_turn, places_after, places_at_once, plan_places}
use Rattle.cal_state.specs.inside.Threads.{thread_of, first_state, lasting_states, states, inner_threads, threads_in_turn, threads_at_once, threads}
use Rattle.cal_state.proofs.PlaceLemmas.{Lies, EachLies, branch, lies, some_parts}

each_unless : {X : Type 0} (P : X → Type 0) (p : Plan) (xs : List X) → Each P xs → Each P (none_if_over p xs)
each_unless P p xs all = by (is_over p)
  where
    by : (b : Bool) → Each P (if b then [] else xs)
    by true = tt
    by false = all

each_if : {X : Type 0} (P : X → Type 0) (b : Bool) (xs ys : List X) → Each P xs → Each P ys → Each P (if b then xs else ys)
each_if P true xs ys one other = one
each_if P false xs ys one other = other

-- ---- parts

-- no two threads have one part
abbrev pub PartsApart : List Thread → Type 0
PartsApart [] = Unit {0}
PartsApart (t ∷ ts) = Each (λ (u : Thread). t.part ≡ u.part → ⊥) ts × PartsApart ts

abbrev pub InRange : (low high : ℕ) → Thread → Type 0
InRange low high t = (low ≤ t.part) × (t.part < high)

pub record AreThreads (low high : ℕ) (ts : List Thread) : Type 0 where
  pub each : Each (InRange low high) ts
  pub apart : PartsApart ts

no_threads : (low high : ℕ) → AreThreads low high []
no_threads low high = record { each = tt; apart = tt }

wider_threads : (a b c d : ℕ) (ts : List Thread) → c ≤ a → b ≤ d → AreThreads a b ts → AreThreads c d ts
wider_threads a b c d ts low high are = record {
  each = each_weaker (InRange a b) (InRange c d) (λ t is. let from = is.0 in let below = is.1 in (omega (arith, low, from), omega (arith, high, below))) ts are.each;
  apart = are.apart;
}

apart_append : (ts us : List Thread) → PartsApart ts → PartsApart us → Each (λ (t : Thread). Each (λ (u : Thread). t.part ≡ u.part → ⊥) us) ts → PartsApart (ts ++ us)
apart_append [] us one other across = other
apart_append (t ∷ ts) us one other across = (each_append (λ (u : Thread). t.part ≡ u.part → ⊥) ts us one.0 across.0, apart_append ts us one.1 other across.1)

join_threads : (a m b : ℕ) (ts us : List Thread) → a ≤ m → m ≤ b → AreThreads a m ts → AreThreads m b us → AreThreads a b (ts ++ us)
join_threads a m b ts us first last low high = record {
  each = each_append (InRange a b) ts us (wider_threads a m a b ts (omega arith) last low).each (wider_threads m b a b us first (omega arith) high).each;
  apart = apart_append ts us low.apart high.apart
      (each_weaker (InRange a m) (λ (t : Thread). Each (λ (u : Thread). t.part ≡ u.part → ⊥) us)
      (λ t is. each_weaker (InRange m b) (λ (u : Thread). t.part ≡ u.part → ⊥)
      (λ u there same. let below = is.1 in let from = there.0 in absurd (omega (arith, below, from, same))) us high.each) ts low.each);
}

one_thread : (k high : ℕ) (p : Plan) (ts : List Thread) → k < high → AreThreads (k + 1) high ts → AreThreads k high (thread_of k p ∷ ts)
one_thread k high p ts some are = record {
  each = ((omega arith, some), (wider_threads (k + 1) high k high ts (omega arith) (omega arith) are).each);
  apart = (each_weaker (InRange (k + 1) high) (λ (u : Thread). k ≡ u.part → ⊥) (λ u is same. let from = is.0 in absurd (omega (arith, from, same))) ts are.each, are.apart);
}

threads_unless : (low high : ℕ) (p : Plan) (ts : List Thread) → AreThreads low high ts → AreThreads low high (none_if_over p ts)
threads_unless low high p ts are = by (is_over p)
  where
    by : (b : Bool) → AreThreads low high (if b then [] else ts)
    by true = no_threads low high
    by false = are

mutual
  inner_are : (k : ℕ) (p : Plan) → AreThreads (k + 1) (k + size p) (inner_threads k p)
  inner_are k (Enables actor) = no_threads (k + 1) (k + 1)
  inner_are k (InTurn ps) = wider_threads (k + 1) (k + 1 + sizes ps) (k + 1) (k + size (InTurn ps)) (threads_in_turn (k + 1) ps) (omega arith) (omega arith) (in_turn_are (k + 1) ps)
  inner_are k (AtOnce ps) = wider_threads (k + 1) (k + 1 + sizes ps) (k + 1) (k + size (AtOnce ps)) (threads_at_once (k + 1) ps) (omega arith) (omega arith) (at_once_are (k + 1) ps)
  inner_are k (Chooses port by on off) =
      let m : ℕ = k + 1 + size on in
      let last : ℕ = k + size (Chooses port by on off) in
      join_threads (k + 1) m last (inner_threads (k + 1) on) (inner_threads m off) (omega arith) (omega arith)
      (wider_threads (k + 1 + 1) m (k + 1) m (inner_threads (k + 1) on) (omega arith) (omega arith) (inner_are (k + 1) on))
      (wider_threads (m + 1) (m + size off) m last (inner_threads m off) (omega arith) (omega arith) (inner_are m off))
  inner_are k (Repeats port by body) =
      wider_threads (k + 1 + 1) (k + 1 + size body) (k + 1) (k + size (Repeats port by body)) (inner_threads (k + 1) body) (omega arith) (omega arith) (inner_are (k + 1) body)

  in_turn_are : (k : ℕ) (ps : Plans) → AreThreads k (k + sizes ps) (threads_in_turn k ps)
  in_turn_are k NoPlans = no_threads k (k + 0)
  in_turn_are k (MorePlans p ps) =
      let m : ℕ = k + size p in
      let last : ℕ = k + sizes (MorePlans p ps) in
      join_threads k m last (inner_threads k p) (threads_in_turn m ps) (omega arith) (omega arith)
      (wider_threads (k + 1) m k m (inner_threads k p) (omega arith) (omega arith) (inner_are k p))
      (wider_threads m (m + sizes ps) m last (threads_in_turn m ps) (omega arith) (omega arith) (in_turn_are m ps))

  at_once_are : (k : ℕ) (ps : Plans) → AreThreads k (k + sizes ps) (threads_at_once k ps)
  at_once_are k NoPlans = no_threads k (k + 0)
  at_once_are k (MorePlans p ps) =
      let m : ℕ = k + size p in
      let last : ℕ = k + sizes (MorePlans p ps) in
      let some = some_parts p in
      join_threads k m last (none_if_over p (thread_of k p ∷ inner_threads k p)) (threads_at_once m ps) (omega arith) (omega arith)
      (threads_unless k m p (thread_of k p ∷ inner_threads k p) (one_thread k m p (inner_threads k p) (omega (arith, some)) (inner_are k p)))
      (wider_threads m (m + sizes ps) m last (threads_at_once m ps) (omega arith) (omega arith) (at_once_are m ps))

pub threads_are : (plan : Plan) → AreThreads 0 (size plan) (threads plan)
threads_are plan =
    let some = some_parts plan in
    let P : ℕ → Type 0 = λ m. AreThreads 0 m (threads plan) in
    let same : 0 + size plan ≡ size plan = omega arith in
    subst P same (one_thread 0 (0 + size plan) plan (inner_threads 0 plan) (omega (arith, some)) (inner_are 0 plan))

-- ---- places

-- a state is none but 0, of one of these threads
abbrev pub IsOfThreads : List Thread → Place → Type 0
IsOfThreads ts NoState = Unit {0}
IsOfThreads ts (IsIn token state) = (1 ≤ state.number) × Contains ts state.thread

of_more : (ts us : List Thread) (xs : List Place) → ((t : Thread) → Contains ts t → Contains us t) → Each (IsOfThreads ts) xs → Each (IsOfThreads us) xs
of_more ts us xs more all = each_weaker (IsOfThreads ts) (IsOfThreads us) (λ x is. by x is) xs all
  where
    by : (x : Place) → IsOfThreads ts x → IsOfThreads us x
    by NoState is = tt
    by (IsIn token state) is = (is.0, more state.thread is.1)

more_after : (t : Thread) (ts us : List Thread) → ((u : Thread) → Contains ts u → Contains us u) → (u : Thread) → Contains (t ∷ ts) u → Contains (t ∷ us) u
more_after t ts us more u has = elim (Contains-cases_first t ts u has) [
  | inl same ↦ subst (λ x. Contains (t ∷ us) x) same (Contains-here t us)
  | inr there ↦ Contains-there t us u (more u there)
]

-- with further threads on the right, and on the left
of_left : (t : Thread) (ts us : List Thread) (xs : List Place) → Each (IsOfThreads (t ∷ ts)) xs → Each (IsOfThreads (t ∷ (ts ++ us))) xs
of_left t ts us xs all = of_more (t ∷ ts) (t ∷ (ts ++ us)) xs (more_after t ts (ts ++ us) (λ u has. Contains-append_left ts us u has)) all

of_right : (t : Thread) (ts us : List Thread) (xs : List Place) → Each (IsOfThreads (t ∷ us)) xs → Each (IsOfThreads (t ∷ (ts ++ us))) xs
of_right t ts us xs all = of_more (t ∷ us) (t ∷ (ts ++ us)) xs (more_after t us (ts ++ us) (λ u has. Contains-append_right ts us u has)) all

of_later : (thread : Thread) (n k : ℕ) (p : Plan) → 1 ≤ n → Each (IsOfThreads (thread ∷ inner_threads k p)) (places thread n k p)
    → Each (IsOfThreads (thread ∷ inner_threads k p)) (with_start_in thread n k p (places thread n k p))
of_later thread n k p some all =
    each_unless (IsOfThreads (thread ∷ inner_threads k p)) p (place_in (Starting k) thread n ∷ places thread n k p) ((some, Contains-here thread (inner_threads k p)), all)

-- one of several plans at once, unless it takes no row
of_branch : (thread : Thread) (k : ℕ) (p : Plan) → Each (IsOfThreads (thread_of k p ∷ inner_threads k p)) (branch k p)
    → Each (IsOfThreads (thread ∷ none_if_over p (thread_of k p ∷ inner_threads k p))) (none_if_over p (branch k p))
of_branch thread k p all = by (is_over p)
  where
    own : List Thread
    own = thread_of k p ∷ inner_threads k p

    by : (b : Bool) → Each (IsOfThreads (thread ∷ (if b then [] else own))) (if b then [] else branch k p)
    by true = tt
    by false = of_more own (thread ∷ own) (branch k p) (λ t has. Contains-there thread own t has) all

mutual
  of_part : (thread : Thread) (n k : ℕ) (p : Plan) → 1 ≤ n → Each (IsOfThreads (thread ∷ inner_threads k p)) (places thread n k p)
  of_part thread n k (Enables actor) some = (tt, ((some, Contains-here thread []), tt))
  of_part thread n k (InTurn ps) some = (tt, of_in_turn thread (n + 1) (k + 1) ps (omega arith))
  of_part thread n k (AtOnce ps) some = (tt, of_at_once thread (k + 1) ps)
  of_part thread n k (Chooses port by on off) some =
      let m : ℕ = n + 1 + lasting_states on in
      let j : ℕ = k + 1 + size on in (
        tt,
        each_append (IsOfThreads (thread ∷ (inner_threads (k + 1) on ++ inner_threads j off))) (with_start_in thread (n + 1) (k + 1) on (places thread (n + 1) (k + 1) on))
            (with_start_in thread m j off (places thread m j off))
            (of_left thread (inner_threads (k + 1) on) (inner_threads j off) (with_start_in thread (n + 1) (k + 1) on (places thread (n + 1) (k + 1) on))
            (of_later thread (n + 1) (k + 1) on (omega arith) (of_part thread (n + 1) (k + 1) on (omega arith))))
            (of_right thread (inner_threads (k + 1) on) (inner_threads j off) (with_start_in thread m j off (places thread m j off))
            (of_later thread m j off (omega arith) (of_part thread m j off (omega arith)))),
      )
  of_part thread n k (Repeats port by body) some =
      (tt, ((some, Contains-here thread (inner_threads (k + 1) body)), of_later thread (n + 1) (k + 1) body (omega arith) (of_part thread (n + 1) (k + 1) body (omega arith))))

  of_in_turn : (thread : Thread) (n k : ℕ) (ps : Plans) → 1 ≤ n → Each (IsOfThreads (thread ∷ threads_in_turn k ps)) (places_in_turn thread n k ps)
  of_in_turn thread n k NoPlans some = tt
  of_in_turn thread n k (MorePlans p ps) some =
      let ts : List Thread = inner_threads k p in
      let us : List Thread = threads_in_turn (k + size p) ps in
      let rest : List Place = places_after thread (n + states p) (k + size p) ps in
      each_if (IsOfThreads (thread ∷ (ts ++ us))) (is_over p) (places_in_turn thread n (k + size p) ps) (places thread n k p ++ rest)
      (of_right thread ts us (places_in_turn thread n (k + size p) ps) (of_in_turn thread n (k + size p) ps some))
      (each_append (IsOfThreads (thread ∷ (ts ++ us))) (places thread n k p) rest (of_left thread ts us (places thread n k p) (of_part thread n k p some))
      (of_right thread ts us rest (of_after thread (n + states p) (k + size p) ps (omega (arith, some)))))

  of_after : (thread : Thread) (n k : ℕ) (ps : Plans) → 1 ≤ n → Each (IsOfThreads (thread ∷ threads_in_turn k ps)) (places_after thread n k ps)
  of_after thread n k NoPlans some = tt
  of_after thread n k (MorePlans p ps) some =
      let ts : List Thread = inner_threads k p in
      let us : List Thread = threads_in_turn (k + size p) ps in
      let first : List Place = with_start_in thread n k p (places thread n k p) in
      let rest : List Place = places_after thread (n + states p) (k + size p) ps in
      each_if (IsOfThreads (thread ∷ (ts ++ us))) (is_over p) (places_after thread n (k + size p) ps) (first ++ rest)
      (of_right thread ts us (places_after thread n (k + size p) ps) (of_after thread n (k + size p) ps some))
      (each_append (IsOfThreads (thread ∷ (ts ++ us))) first rest (of_left thread ts us first (of_later thread n k p some (of_part thread n k p some)))
      (of_right thread ts us rest (of_after thread (n + states p) (k + size p) ps (omega (arith, some)))))

  of_at_once : (thread : Thread) (k : ℕ) (ps : Plans) → Each (IsOfThreads (thread ∷ threads_at_once k ps)) (places_at_once k ps)
  of_at_once thread k NoPlans = tt
  of_at_once thread k (MorePlans p ps) =
      let ts : List Thread = none_if_over p (thread_of k p ∷ inner_threads k p) in
      let us : List Thread = threads_at_once (k + size p) ps in
      let rest : List Place = places_at_once (k + size p) ps in
      each_append (IsOfThreads (thread ∷ (ts ++ us))) (none_if_over p (branch k p)) rest
      (of_left thread ts us (none_if_over p (branch k p)) (of_branch thread k p ((omega arith, Contains-here (thread_of k p) (inner_threads k p)), of_part (thread_of k p) first_state k p (omega arith))))
      (of_right thread ts us rest (of_at_once thread (k + size p) ps))

-- ---- the places of a plan

-- a state of one of the plan's threads; those of the main thread are after its end
pub record IsStateOf (plan : Plan) (thread : Thread) (number : ℕ) : Type 0 where
  pub some : 1 ≤ number
  pub among : Contains (threads plan) thread
  pub small : thread.part < size plan
  pub main : thread.part ≡ 0 → 2 ≤ number

abbrev pub IsOfPlan : Plan → Place → Type 0
IsOfPlan plan NoState = Unit {0}
IsOfPlan plan (IsIn token state) = IsStateOf plan state.thread state.number

pub of_plan : (plan : Plan) → Each (IsOfPlan plan) (plan_places plan)
of_plan plan =
    each_unless (IsOfPlan plan) plan (places (thread_of 0 plan) first_state 0 plan)
    (both (places (thread_of 0 plan) first_state 0 plan) (of_part (thread_of 0 plan) first_state 0 plan (omega arith)) (lies (thread_of 0 plan) first_state 0 plan))
  where
    high : ℕ
    high = first_state + states plan

    one : (x : Place) → IsOfThreads (threads plan) x → Lies 0 first_state high (0 + 1) (0 + size plan) x → IsOfPlan plan x
    one NoState is lie = tt
    one (IsIn token state) is (inl (own, from, below)) =
        let some = some_parts plan in record { some = is.0; among = is.1; small = omega (arith, own, some); main = λ same. from }
    one (IsIn token state) is (inr (from, below)) = record { some = is.0; among = is.1; small = omega (arith, below); main = λ same. absurd (omega (arith, from, same)) }

    both : (xs : List Place) → Each (IsOfThreads (threads plan)) xs → EachLies 0 first_state high (0 + 1) (0 + size plan) xs → Each (IsOfPlan plan) xs
    both [] is lie = tt
    both (x ∷ xs) is lie = (one x is.0 lie.0, both xs is.1 lie.1)
