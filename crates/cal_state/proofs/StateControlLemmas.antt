-- Registers of threads that are driven so, and wires that show states, bring control through its rows as tokens do: those that would come next.
use Rattle.std.proofs.Common.{◌≡◌, ◌⊎◌, inl, inr, ℕ, zero, suc, ◌<◌, ◌≤◌, ◌^◌, List, [], ◌∷◌, ◌++◌, map, length, Bool, true, false, not, ◌&&◌, ◌||◌, ◌==◌, refl, sym, ap, ap₂, subst, ◌∙◌, arith}
use Rattle.std.specs.Prelude.{Contains, codes, if◌then◌else◌}
use Rattle.std.proofs.lemmas.Bool.{cases_Bool, and_left, and_right, and_parts, cond-true, cond-false, eqb-true, ne_eqb}
use Rattle.net_core.specs.Circuit.{settled}
use Rattle.net_core.specs.Guard.{Negates, holds}
use Rattle.cal_ast.proofs.ListLemmas.{Contains-none, Contains-cases_first, Contains-here, Contains-there}
use Rattle.cal_ast.specs.Actors.{Actor, same_actor}
use Rattle.cal_ast.specs.Laws.{local_values}
use Rattle.cal_ast.specs.Plan.{Plan}
use Rattle.cal_ast.specs.Spans.{View}
use Rattle.cal_ast.specs.Tree.{PortName, port_of, own}
use Rattle.cal_walk.specs.Left.{sight_at, is_over, is_by}
use Rattle.cal_walk.specs.Stages.{Progress, Waits, GoesOn, Ends, progress_at}
use Rattle.cal_token.proofs.TestLemmas.{and_true, or_same}
use Rattle.cal_token.specs.inside.Coming.{IsOff, Leaves}
use Rattle.cal_token.specs.inside.Tokens.{Token, Tokens, size, ends, enables_by, tests_by, Steps}
use Rattle.cal_lower.specs.inside.Lowered.{control_ends, plan_pieces, start_guard}
use Rattle.cal_lower.specs.inside.Parts.{part_ends, part_pieces}
use Rattle.cal_lower.specs.inside.Pieces.{Kind, Wire, Register, Piece, shown, is_set, any_of, is_done, start_name, busy_name, over_name}
use Rattle.cal_lower.proofs.ActingLemmas.{never_enabled, never_tested}
use Rattle.cal_lower.proofs.ControlLemmas.{Bits, AreControl, Stands, over_each_enabled, over_each_tested, stands_at}
use Rattle.cal_lower.proofs.GuardLemmas.{any_true, holds_both, holds_any_of}
use Rattle.cal_lower.proofs.ListLemmas.{Each, each_at, each_from}
use Rattle.cal_lower.proofs.OffLemmas.{IsUnset, UnsetAs, part_off}
use Rattle.cal_lower.proofs.PartLemmas.{shows_bit, tokens_in, is_driven, ShowsAs, IsShown, EachEnabled, plan_ends, plan_steps}
use Rattle.cal_lower.proofs.PlaceLemmas.{Apart}
use Rattle.cal_state.specs.inside.Encoded.{instance_wires, busy_guard, over_state, thread_sets}
use Rattle.cal_state.specs.inside.States.{as_wires, is_in, is_on, thread_name}
use Rattle.cal_state.specs.inside.Threads.{Thread, State, Place, NoState, IsIn, ended_state, first_state, inner_threads, places, plan_places, thread_of, threads}
use Rattle.cal_state.proofs.JointLemmas.{Joint, same_ends, same_enables, same_tests, same_steps}
use Rattle.cal_state.proofs.NextStateLemmas.{next_row, next_shows, thread_values}
use Rattle.cal_state.proofs.OnLemmas.{on, off_none, few_on}
use Rattle.cal_state.proofs.PlaceLemmas.{Aligned}
use Rattle.cal_state.proofs.RegisterLemmas.{plan_aligned}
use Rattle.cal_state.proofs.SomeLemmas.{HasToken, some_token}
use Rattle.cal_state.proofs.ThreadLemmas.{InRange, IsOfPlan, of_plan, threads_are}
use Rattle.cal_state.proofs.ToldLemmas.{among, settles_among, AllTold, told_joint}

-- ---- what the rows of a run show of control, where its wires and the registers of its threads are

abbrev pub plan_wires : Plan → List Piece
plan_wires plan = instance_wires plan ++ as_wires (plan_pieces plan) (plan_places plan)

pub record ShowsStates (plan : Plan) (height : ℕ) (see : ℕ → PortName → ℕ) : Type 0 where
  -- a wire shows what drives it
  pub wires : (t : ℕ) → t < height → Each (λ (p : Piece). shows_bit (see t) p.name ≡ is_driven (see t) p) (plan_wires plan)
  -- the register of a thread is 0, and then what drove it in the row before
  pub opens : (thread : Thread) → Contains (threads plan) thread → 0 < height → see 0 (shown (thread_name thread)) ≡ 0
  pub follows : (thread : Thread) → Contains (threads plan) thread → (t : ℕ) → suc t < height →
      see (suc t) (shown (thread_name thread)) ≡ settled (local_values (see t) (port_of (thread_name thread) (codes "in")) (thread_sets plan))

-- ---- lists of states

-- no token, no state
none_there : (v : Tokens) (part : ℕ) → ((token : Token) → v token ≡ false) → (xs : List Place) → on v part xs ≡ []
none_there v part none [] = refl
none_there v part none (NoState ∷ xs) = none_there v part none xs
none_there v part none (IsIn token state ∷ xs) =
    cond-false ((state.thread.part == part) && v token) (state.number ∷ on v part xs) (on v part xs) (and_right (state.thread.part == part) (v token) (none token))
    ∙ none_there v part none xs

one_some : (b : Bool) (m n : ℕ) (ns : List ℕ) → 1 ≤ m → (Contains ns n → 1 ≤ n) → Contains (if b then m ∷ ns else ns) n → 1 ≤ n
one_some true m n ns some others has = elim (Contains-cases_first m ns n has) [
  | inl same ↦ omega (arith, same, some)
  | inr later ↦ others later
]
one_some false m n ns some others has = others has

-- each state that is on is of the plan
on_some : (plan : Plan) (v : Tokens) (part n : ℕ) (xs : List Place) → Each (IsOfPlan plan) xs → Contains (on v part xs) n → 1 ≤ n
on_some plan v part n [] of has = absurd (Contains-none n has)
on_some plan v part n (NoState ∷ xs) of has = on_some plan v part n xs of.1 has
on_some plan v part n (IsIn token state ∷ xs) of has =
    one_some ((state.thread.part == part) && v token) state.number n (on v part xs) of.0.some (λ later. on_some plan v part n xs of.1 later) has

not_ended : (b : Bool) (n : ℕ) (ns : List ℕ) → (b ≡ true → 2 ≤ n) → among 1 ns ≡ false → among 1 (if b then n ∷ ns else ns) ≡ false
not_ended true n ns far none = let f = far refl in or_same (n == 1) (among 1 ns) false false (ne_eqb n 1 (λ e. absurd (omega (arith, e, f)))) none
not_ended false n ns far none = none

-- the end of the main thread has no token
none_ended : (plan : Plan) (v : Tokens) (xs : List Place) → Each (IsOfPlan plan) xs → among 1 (on v 0 xs) ≡ false
none_ended plan v [] of = refl
none_ended plan v (NoState ∷ xs) of = none_ended plan v xs of.1
none_ended plan v (IsIn token state ∷ xs) of =
    not_ended ((state.thread.part == 0) && v token) state.number (on v 0 xs)
    (λ both. of.0.main (eqb-true state.thread.part 0 (and_parts (state.thread.part == 0) (v token) both).0)) (none_ended plan v xs of.1)

-- what settles of one state is that state
settles_one : (n : ℕ) (ns : List ℕ) → length ns ≤ 1 → Contains ns n → settled ns ≡ n
settles_one n [] few has = absurd (Contains-none n has)
settles_one n (m ∷ []) few has = elim (Contains-cases_first m [] n has) [
  | inl same ↦ same
  | inr later ↦ absurd (Contains-none n later)
]
settles_one n (m ∷ k ∷ ns) few has = absurd (omega (arith, few))

-- no thread is on, and one is
any_none : (see : PortName → ℕ) (ts : List Thread) → ((t : Thread) → Contains ts t → see (shown (thread_name t)) ≡ 0) → any_true see (map is_on ts) ≡ false
any_none see [] none = refl
any_none see (t ∷ ts) none =
    or_same (not (see (shown (thread_name t)) == 0)) (any_true see (map is_on ts)) false false (ap (λ x. not (x == 0)) (none t (Contains-here t ts)))
    (any_none see ts (λ u has. none u (Contains-there t ts u has)))

any_some : (see : PortName → ℕ) (ts : List Thread) (t : Thread) → Contains ts t → not (see (shown (thread_name t)) == 0) ≡ true → any_true see (map is_on ts) ≡ true
any_some see [] t has is = absurd (Contains-none t has)
any_some see (u ∷ ts) t has is = elim (Contains-cases_first u ts t has) [
  | inl same ↦ let N : Thread → Type 0 = λ x. not (see (shown (thread_name x)) == 0) ≡ true in ap (λ b. b || any_true see (map is_on ts)) (subst N (sym same) is)
  | inr later ↦ ap (λ b. not (see (shown (thread_name u)) == 0) || b) (any_some see ts t later is) ∙ or_true (not (see (shown (thread_name u)) == 0))
]
  where
    or_true : (b : Bool) → (b || true) ≡ true
    or_true true = refl
    or_true false = refl

-- ---- pieces and the wires that stand for them

module _ (see next : PortName → ℕ) where
  -- a wire of the token lowering stays, and each of its registers would show next what drives it
  pub pieces_shown : (ps : List Piece) (xs : List Place) → Aligned ps xs → Each (λ (p : Piece). shows_bit see p.name ≡ is_driven see p) (as_wires ps xs)
      → Each (λ (p : Piece). shows_bit next p.name ≡ is_driven see p) ps → Each (IsShown see next) ps
  pieces_shown [] [] fit wires told = tt
  pieces_shown [] (x ∷ xs) fit wires told = absurd fit
  pieces_shown (p ∷ ps) [] fit wires told = absurd fit
  pieces_shown (p ∷ ps) (NoState ∷ xs) fit wires told =
      let S : Kind → Type 0 = λ k. ShowsAs k (shows_bit see p.name) (shows_bit next p.name) (is_driven see p) in
      (subst S (sym fit.0) wires.0, pieces_shown ps xs fit.1 wires.1 told.1)
  pieces_shown (p ∷ ps) (IsIn token state ∷ xs) fit wires told =
      let S : Kind → Type 0 = λ k. ShowsAs k (shows_bit see p.name) (shows_bit next p.name) (is_driven see p) in
      (subst S (sym fit.0.0) told.0, pieces_shown ps xs fit.1 wires.1 told.1)

-- ---- the rows

module _ (plan : Plan) (sized : size plan ≤ 2 ^ 64) (apart : Apart (plan_pieces plan)) (done : Actor → ℕ → Bool) (height : ℕ) (see : ℕ → PortName → ℕ) (shows : ShowsStates plan height see)
    (known : (t : ℕ) → t < height → EachEnabled (λ actor. holds (see t) (is_done actor) ≡ done actor t) plan) where
  abbrev pub view : View
  view = record { done = done; reads = λ port t. see t port == 1; rows = height }

  abbrev pub go : ℕ → Bool
  go t = see t (own (codes "go")) == 1

  abbrev all : List Place
  all = plan_places plan

  -- what the registers of tokens would show: what drives them in the row before, and 0 in the first
  abbrev pub tokens_row : ℕ → PortName → ℕ
  tokens_row zero port = 0
  tokens_row (suc t) port = next_row (see t) (plan_pieces plan) port

  abbrev pub exact : ℕ → Tokens
  exact t = tokens_in (tokens_row t)

  abbrev pub last : ℕ → Bool
  last t = holds (see t) (control_ends plan)

  abbrev pub was_last : ℕ → Bool
  was_last zero = false
  was_last (suc t) = last t

  abbrev pub start_by : ℕ → (busy over : Bool) → Bool
  start_by t busy over = go t && (not busy && (not over && true))

  abbrev pub is_busy : ℕ → Bool
  is_busy zero = false
  is_busy (suc t) = (start_by t (is_busy t) (was_last t) || is_busy t) && not (last t)

  abbrev pub starts : ℕ → Bool
  starts t = start_by t (is_busy t) (was_last t)

  abbrev pub bits : Bits
  bits = record { start = starts; busy = is_busy; over = was_last; tokens = exact; last = last }

  -- ---- what a thread's register shows

  -- the end, and the states of the tokens
  abbrev pub brought : ℕ → ℕ → List ℕ
  brought t part = (if (0 == part) && was_last t then ended_state ∷ [] else []) ++ on (exact t) part all

  small : (thread : Thread) → Contains (threads plan) thread → thread.part < 2 ^ 64
  small thread has =
      let is = each_at (InRange 0 (size plan)) (threads plan) thread (threads_are plan).each has in
      let below : thread.part < size plan = is.1 in
      omega (arith, sized, below)

  -- the input of its register has what is brought in the next row
  pub input_values : (t : ℕ) (thread : Thread) → Contains (threads plan) thread
      → local_values (see t) (port_of (thread_name thread) (codes "in")) (thread_sets plan) ≡ brought (suc t) thread.part
  input_values t thread has =
      thread_values (see t) plan sized thread (small thread has) (tokens_row (suc t)) (next_shows (see t) (plan_pieces plan) apart)

  nothing_first : (part : ℕ) → brought 0 part ≡ []
  nothing_first part =
      ap₂ (λ (a b : List ℕ). a ++ b) (cond-false ((0 == part) && false) (ended_state ∷ []) [] (and_right (0 == part) false refl)) (none_there (exact 0) part (λ token. refl) all)

  state_is : (t : ℕ) → t < height → (thread : Thread) → Contains (threads plan) thread → see t (shown (thread_name thread)) ≡ settled (brought t thread.part)
  state_is zero within thread has = shows.opens thread has within ∙ sym (ap settled (nothing_first thread.part))
  state_is (suc t) within thread has = shows.follows thread has t within ∙ ap settled (input_values t thread has)

  -- ---- where control stands

  -- no token is there
  pub record Rests (t : ℕ) : Type 0 where
    pub busy : is_busy t ≡ false
    pub none : (part : ℕ) → on (exact t) part all ≡ []

  -- at most one of each thread is, and one of some thread
  pub record Goes (t : ℕ) : Type 0 where
    pub busy : is_busy t ≡ true
    pub over : was_last t ≡ false
    pub few : (part : ℕ) → length (on (exact t) part all) ≤ 1
    pub some : HasToken (exact t) (thread_of 0 plan) (inner_threads 0 plan) all

  none_off : (t : ℕ) → (is_over plan ≡ false → IsOff (exact t) 0 plan) → (part : ℕ) → on (exact t) part all ≡ []
  none_off t off part = by (is_over plan) off
    where
      by : (b : Bool) → (b ≡ false → IsOff (exact t) 0 plan) → on (exact t) part (if b then [] else places (thread_of 0 plan) first_state 0 plan) ≡ []
      by true f = refl
      by false f = off_none (exact t) part (thread_of 0 plan) first_state 0 plan (f refl)

  places_are : is_over plan ≡ false → all ≡ places (thread_of 0 plan) first_state 0 plan
  places_are more = cond-false (is_over plan) [] (places (thread_of 0 plan) first_state 0 plan) more

  few_leaves : (t : ℕ) (rest : Plan) → is_over plan ≡ false → Leaves (exact t) 0 plan rest → (part : ℕ) → length (on (exact t) part all) ≤ 1
  few_leaves t rest more leaves part =
      let F : List Place → Type 0 = λ xs. length (on (exact t) part xs) ≤ 1 in
      subst F (sym (places_are more)) (few_on (exact t) part (thread_of 0 plan) first_state 0 plan rest leaves)

  some_leaves : (t : ℕ) (rest : Plan) → is_over plan ≡ false → Leaves (exact t) 0 plan rest → HasToken (exact t) (thread_of 0 plan) (inner_threads 0 plan) all
  some_leaves t rest more leaves =
      let H : List Place → Type 0 = λ xs. HasToken (exact t) (thread_of 0 plan) (inner_threads 0 plan) xs in
      subst H (sym (places_are more)) (some_token (exact t) (thread_of 0 plan) first_state 0 plan rest leaves)

  stands : (h t : ℕ) (are : AreControl plan view go h bits) (x : Progress) → Stands plan view go h bits are t x → Rests t ⊎ Goes t
  stands h t are Waits r = inl (record { busy = r.busy; none = none_off t r.off })
  stands h t are (GoesOn p) r = inr (record { busy = r.busy; over = r.over; few = few_leaves t p r.more r.leaves; some = some_leaves t p r.more r.leaves })
  stands h t are Ends r = inl (record { busy = r.busy; none = none_off t r.off })

  -- at most one state of a thread is brought
  few_ended : (b : Bool) (ns : List ℕ) → ns ≡ [] → length ((if b then ended_state ∷ [] else []) ++ ns) ≤ 1
  few_ended true ns none = let zero = ap (λ (xs : List ℕ). length xs) none in omega (arith, zero)
  few_ended false ns none = let zero = ap (λ (xs : List ℕ). length xs) none in omega (arith, zero)

  pub few_brought : (t : ℕ) → Rests t ⊎ Goes t → (part : ℕ) → length (brought t part) ≤ 1
  few_brought t (inl r) part = few_ended ((0 == part) && was_last t) (on (exact t) part all) (r.none part)
  few_brought t (inr g) part =
      let F : List ℕ → Type 0 = λ ns. length ns ≤ 1 in
      subst F (sym (ap (λ (xs : List ℕ). xs ++ on (exact t) part all) (cond-false ((0 == part) && was_last t) (ended_state ∷ []) [] (and_right (0 == part) (was_last t) g.over)))) (g.few part)

  -- ---- a row before which control stands so

  module _ (t : ℕ) (within : t < height) (is : Rests t ⊎ Goes t) where
    abbrev seen : Tokens
    seen = tokens_in (see t)

    -- a register shows a state where it is brought
    shows_state : (thread : Thread) → Contains (threads plan) thread → (n : ℕ) → 1 ≤ n → (see t (shown (thread_name thread)) == n) ≡ among n (brought t thread.part)
    shows_state thread has n some = ap (λ x. x == n) (state_is t within thread has) ∙ settles_among n (brought t thread.part) some (few_brought t is thread.part)

    -- of a token's state, where its token is there
    ended_apart : (b : Bool) (n : ℕ) (ns : List ℕ) → (b ≡ true → 2 ≤ n) → among n ((if b then ended_state ∷ [] else []) ++ ns) ≡ among n ns
    ended_apart true n ns far = let f = far refl in ap (λ b. b || among n ns) (ne_eqb 1 n (λ e. absurd (omega (arith, e, f))))
    ended_apart false n ns far = refl

    told_state : (token : Token) (state : State) → IsOfPlan plan (IsIn token state)
        → (see t (shown (thread_name state.thread)) == state.number) ≡ among state.number (on (exact t) state.thread.part all)
    told_state token state of =
        shows_state state.thread of.among state.number of.some
        ∙ ended_apart ((0 == state.thread.part) && was_last t) state.number (on (exact t) state.thread.part all)
        (λ both. of.main (sym (eqb-true 0 state.thread.part (and_parts (0 == state.thread.part) (was_last t) both).0)))

    -- so the wires tell them
    told : (ps : List Piece) (xs : List Place) → Aligned ps xs → Each (λ (p : Piece). shows_bit (see t) p.name ≡ is_driven (see t) p) (as_wires ps xs) → Each (IsOfPlan plan) xs
        → AllTold (exact t) seen all xs
    told [] [] fit wires of = tt
    told [] (x ∷ xs) fit wires of = absurd fit
    told (p ∷ ps) [] fit wires of = absurd fit
    told (p ∷ ps) (NoState ∷ xs) fit wires of = (tt, told ps xs fit.1 wires.1 of.1)
    told (p ∷ ps) (IsIn token state ∷ xs) fit wires of = (
      ap (shows_bit (see t)) (sym fit.0.1) ∙ wires.0 ∙ and_true (holds (see t) (is_in state)) ∙ told_state token state of.0,
      told ps xs fit.1 wires.1 of.1,
    )

    abbrev its_wires : Each (λ (p : Piece). shows_bit (see t) p.name ≡ is_driven (see t) p) (plan_wires plan)
    its_wires = shows.wires t within

    state_wires : Each (λ (p : Piece). shows_bit (see t) p.name ≡ is_driven (see t) p) (as_wires (plan_pieces plan) all)
    state_wires = its_wires.1.1.1

    main : Contains (threads plan) (thread_of 0 plan)
    main = Contains-here (thread_of 0 plan) (inner_threads 0 plan)

    -- ---- the instance's wires

    pub over_shows : shows_bit (see t) over_name ≡ was_last t
    over_shows =
        its_wires.1.1.0 ∙ and_true (holds (see t) (is_in (over_state plan))) ∙ shows_state (thread_of 0 plan) main ended_state (omega arith)
        ∙ by (was_last t) (on (exact t) 0 all) (none_ended plan (exact t) all (of_plan plan))
      where
        by : (b : Bool) (ns : List ℕ) → among 1 ns ≡ false → among 1 ((if b then ended_state ∷ [] else []) ++ ns) ≡ b
        by true ns none = refl
        by false ns none = none

    busy_is : shows_bit (see t) busy_name ≡ (any_true (see t) (map is_on (threads plan)) && not (was_last t))
    busy_is =
        its_wires.1.0 ∙ and_true (holds (see t) (busy_guard plan)) ∙ holds_both (see t) (any_of (map is_on (threads plan))) (Negates (is_set over_name))
        ∙ ap₂ (λ (x y : Bool). x && not y) (holds_any_of (see t) (map is_on (threads plan))) over_shows

    rests_busy : Rests t → (any_true (see t) (map is_on (threads plan)) && not (was_last t)) ≡ is_busy t
    rests_busy r = elim (cases_Bool (was_last t)) [
      | inl over ↦ and_right (any_true (see t) (map is_on (threads plan))) (not (was_last t)) (ap not over) ∙ sym r.busy
      | inr not_over ↦
          and_left (any_true (see t) (map is_on (threads plan))) (not (was_last t))
          (any_none (see t) (threads plan) (λ thread has. state_is t within thread has ∙ ap settled (
          ap₂ (λ (a b : List ℕ). a ++ b)
          (cond-false ((0 == thread.part) && was_last t) (ended_state ∷ []) [] (and_right (0 == thread.part) (was_last t) not_over)) (r.none thread.part))))
          ∙ sym r.busy
    ]

    goes_busy : Goes t → (any_true (see t) (map is_on (threads plan)) && not (was_last t)) ≡ is_busy t
    goes_busy g =
        let part : ℕ = g.some.has.part in
        let n : ℕ = g.some.state in
        let same : brought t part ≡ on (exact t) part all =
        ap (λ (xs : List ℕ). xs ++ on (exact t) part all) (cond-false ((0 == part) && was_last t) (ended_state ∷ []) [] (and_right (0 == part) (was_last t) g.over)) in
        let value : see t (shown (thread_name g.some.has)) ≡ n =
        state_is t within g.some.has g.some.among ∙ ap settled same ∙ settles_one n (on (exact t) part all) (g.few part) g.some.is_on in
        let some : 1 ≤ n = on_some plan (exact t) part n all (of_plan plan) g.some.is_on in
        let on_now : not (see t (shown (thread_name g.some.has)) == 0) ≡ true = ap (λ x. not (x == 0)) value ∙ ap not (ne_eqb n 0 (λ e. absurd (omega (arith, e, some)))) in
        ap₂ (λ (x y : Bool). x && not y) (any_some (see t) (threads plan) g.some.has g.some.among on_now) g.over ∙ sym g.busy

    pub busy_shows : shows_bit (see t) busy_name ≡ is_busy t
    busy_shows = elim is [
      | inl r ↦ busy_is ∙ rests_busy r
      | inr g ↦ busy_is ∙ goes_busy g
    ]

    pub start_shows : shows_bit (see t) start_name ≡ starts t
    start_shows = its_wires.0 ∙ and_true (holds (see t) start_guard) ∙ ap₂ (λ (x y : Bool). go t && (not x && (not y && true))) busy_shows over_shows

    -- ---- tokens

    joint : is_over plan ≡ false → Joint (exact t) seen 0 plan (starts t) (shows_bit (see t) start_name)
    joint more =
        let T : List Place → Type 0 = λ xs. AllTold (exact t) seen xs xs in
        told_joint (exact t) seen (thread_of 0 plan) first_state 0 plan (starts t) (shows_bit (see t) start_name) (omega arith) (sym start_shows)
        (subst T (places_are more) (told (plan_pieces plan) all (plan_aligned plan) state_wires (of_plan plan)))

    shown_pieces : is_over plan ≡ false → Each (IsShown (see t) (tokens_row (suc t))) (part_pieces 0 plan (is_set start_name))
    shown_pieces more =
        let E : List Piece → Type 0 = λ ps. Each (IsShown (see t) (tokens_row (suc t))) ps in
        subst E (cond-false (is_over plan) [] (part_pieces 0 plan (is_set start_name)) more)
        (pieces_shown (see t) (tokens_row (suc t)) (plan_pieces plan) all (plan_aligned plan) state_wires (next_shows (see t) (plan_pieces plan) apart))

    at_once : is_over plan ≡ true → last t ≡ starts t
    at_once over = ap (λ g. holds (see t) g) (cond-true (is_over plan) (is_set start_name) (part_ends 0) over) ∙ start_shows

    ends_now : is_over plan ≡ false → last t ≡ ends (exact t) (sight_at view t) 0 plan (starts t)
    ends_now more =
        ap (λ g. holds (see t) g) (cond-false (is_over plan) (is_set start_name) (part_ends 0) more)
        ∙ plan_ends (see t) (tokens_row (suc t)) (λ actor. done actor t) plan (is_set start_name) more (known t within) (shown_pieces more)
        ∙ sym (same_ends (exact t) seen (sight_at view t) 0 plan (starts t) (shows_bit (see t) start_name) (joint more))

    steps_now : is_over plan ≡ false → Steps (exact t) (sight_at view t) 0 plan (starts t) (exact (suc t))
    steps_now more =
        same_steps (exact t) seen (sight_at view t) (exact (suc t)) 0 plan (starts t) (shows_bit (see t) start_name) (joint more)
        (plan_steps (see t) (tokens_row (suc t)) (λ actor. done actor t) plan (is_set start_name) more (known t within) (shown_pieces more))

    pub enables_same : (actor : Actor) → enables_by seen 0 plan (shows_bit (see t) start_name) actor ≡ enables_by (exact t) 0 plan (starts t) actor
    enables_same actor = by (cases_Bool (is_over plan))
      where
        by : (is_over plan ≡ true) ⊎ (is_over plan ≡ false) → enables_by seen 0 plan (shows_bit (see t) start_name) actor ≡ enables_by (exact t) 0 plan (starts t) actor
        by (inl over) =
            let none = over_each_enabled (λ other. same_actor other actor ≡ false) plan over in
            never_enabled seen actor 0 plan (shows_bit (see t) start_name) none ∙ sym (never_enabled (exact t) actor 0 plan (starts t) none)
        by (inr more) = sym (same_enables (exact t) seen (sight_at view t) actor 0 plan (starts t) (shows_bit (see t) start_name) (joint more))

    pub tests_same : (actor : Actor) → tests_by seen 0 plan (shows_bit (see t) start_name) actor ≡ tests_by (exact t) 0 plan (starts t) actor
    tests_same actor = by (cases_Bool (is_over plan))
      where
        by : (is_over plan ≡ true) ⊎ (is_over plan ≡ false) → tests_by seen 0 plan (shows_bit (see t) start_name) actor ≡ tests_by (exact t) 0 plan (starts t) actor
        by (inl over) =
            let none = over_each_tested (λ by'. is_by by' actor ≡ false) plan over in
            never_tested seen actor 0 plan (shows_bit (see t) start_name) none ∙ sym (never_tested (exact t) actor 0 plan (starts t) none)
        by (inr more) = sym (same_tests (exact t) seen (sight_at view t) actor 0 plan (starts t) (shows_bit (see t) start_name) (joint more))

  -- ---- all rows

  off_first : is_over plan ≡ false → IsOff (exact 0) 0 plan
  off_first more =
      part_off (tokens_row 0) 0 plan (is_set start_name) more
      (each_from (IsUnset (tokens_row 0)) (part_pieces 0 plan (is_set start_name)) (λ p has. by p.kind))
    where
      by : (k : Kind) → UnsetAs k false
      by Wire = tt
      by Register = refl

  -- control up to a row, and one further
  further : (h : ℕ) → h ≤ height → AreControl plan view go h bits → AreControl plan view go (suc h) bits
  further h most are = record {
    idle = λ within. (refl, refl);
    off = λ within more. off_first more;
    starts = λ t within. refl;
    runs = λ t within. refl;
    is_done = λ t within. refl;
    at_once = λ t within over. at_once t (below t within) (is t within) over;
    ends = λ t within more. ends_now t (below t within) (is t within) more;
    steps = λ t within more. steps_now t (below t within) (is t within) more;
  }
    where
      below : (t : ℕ) → suc t < suc h → t < height
      below t within = omega (arith, within, most)

      is : (t : ℕ) → suc t < suc h → Rests t ⊎ Goes t
      is t within = stands h t are (progress_at view go plan t) (stands_at plan view go h bits are t (omega (arith, within)))

  -- also after the last row, with what would come next
  pub are_up_to : (h : ℕ) → h ≤ suc height → AreControl plan view go h bits
  are_up_to zero most = record {
    idle = λ within. absurd (omega (arith, within));
    off = λ within more. off_first more;
    starts = λ t within. refl;
    runs = λ t within. refl;
    is_done = λ t within. refl;
    at_once = λ t within over. absurd (omega (arith, within));
    ends = λ t within more. absurd (omega (arith, within));
    steps = λ t within more. absurd (omega (arith, within));
  }
  are_up_to (suc h) most = further h (omega (arith, most)) (are_up_to h (omega (arith, most)))

  pub are : AreControl plan view go height bits
  are = are_up_to height (omega arith)

  pub stands_before : (t : ℕ) → t ≤ height → Rests t ⊎ Goes t
  stands_before t within =
      let whole : AreControl plan view go (suc height) bits = are_up_to (suc height) (omega arith) in
      stands (suc height) t whole (progress_at view go plan t) (stands_at plan view go (suc height) bits whole t (omega (arith, within)))

  -- in no row two assignments drive the input of a thread's register
  pub few_values : (t : ℕ) → t < height → (thread : Thread) → Contains (threads plan) thread
      → length (local_values (see t) (port_of (thread_name thread) (codes "in")) (thread_sets plan)) ≤ 1
  few_values t within thread has =
      let L : List ℕ → Type 0 = λ values. length values ≤ 1 in
      subst L (sym (input_values t thread has)) (few_brought (suc t) (stands_before (suc t) (omega (arith, within))) thread.part)
