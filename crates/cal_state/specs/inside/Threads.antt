-- The sequential threads of control, and their states: each token of a plan is a state of one thread, and at most one token of a thread is there in a row.
-- Calyx, ASPLOS 2021, has state registers; which parts of control share one, and how states are numbered, is this project's.
--
-- The main thread is that of the whole plan. Each of several plans at once that takes a row has a thread of its own, with the number of its part. In state 0 a
-- thread has none of its tokens. State 1 is its end: the done row of control for the main thread, and for another one that it has ended and others go on. From
-- state 2 on each part of the thread that takes a row has a state: the part starts by its own token, goes on, or is tested again.
use Rattle.std.specs.Prelude.{ℕ, ◌+◌, List, [], ◌∷◌, ◌++◌, if◌then◌else◌}
use Rattle.cal_ast.specs.Plan.{Plan, Enables, InTurn, AtOnce, Chooses, Repeats, Plans, NoPlans, MorePlans}
use Rattle.cal_walk.specs.Left.{is_over}
use Rattle.cal_token.specs.inside.Tokens.{Token, Going, Starting, Ended, Again, size}
use Rattle.cal_lower.specs.inside.Parts.{none_if_over}

-- a thread: the number of the part that is its plan, and its greatest state
pub record Thread : Type 0 where
  pub part : ℕ
  pub last : ℕ

pub record State : Type 0 where
  pub thread : Thread
  pub number : ℕ

-- ---- how many states there are

abbrev pub zero_if_over : Plan → ℕ → ℕ
zero_if_over p count = if is_over p then 0 else count

-- the states of the parts of a plan in its own thread; plans at once have threads of their own
abbrev mutual
  pub states : Plan → ℕ
  states (Enables actor) = 1
  states (InTurn ps) = states_in ps + 1
  states (AtOnce ps) = 1
  states (Chooses port by on off) = zero_if_over on (states on) + zero_if_over off (states off) + 1
  states (Repeats port by body) = zero_if_over body (states body) + 1

  pub states_in : Plans → ℕ
  states_in NoPlans = 0
  states_in (MorePlans p ps) = zero_if_over p (states p) + states_in ps

-- the same of a plan that may take no row
abbrev pub lasting_states : Plan → ℕ
lasting_states p = zero_if_over p (states p)

-- ---- the threads

abbrev pub ended_state : ℕ
ended_state = 1

abbrev pub first_state : ℕ
first_state = 2

-- the thread of the plan with number k
abbrev pub thread_of : ℕ → Plan → Thread
thread_of k p = record { part = k; last = lasting_states p + 1 }

-- the threads of plans at once that stand in the plan with number k
abbrev mutual
  pub inner_threads : ℕ → Plan → List Thread
  inner_threads k (Enables actor) = []
  inner_threads k (InTurn ps) = threads_in_turn (k + 1) ps
  inner_threads k (AtOnce ps) = threads_at_once (k + 1) ps
  inner_threads k (Chooses port by on off) = inner_threads (k + 1) on ++ inner_threads (k + 1 + size on) off
  inner_threads k (Repeats port by body) = inner_threads (k + 1) body

  pub threads_in_turn : ℕ → Plans → List Thread
  threads_in_turn k NoPlans = []
  threads_in_turn k (MorePlans p ps) = inner_threads k p ++ threads_in_turn (k + size p) ps

  pub threads_at_once : ℕ → Plans → List Thread
  threads_at_once k NoPlans = []
  threads_at_once k (MorePlans p ps) = none_if_over p (thread_of k p ∷ inner_threads k p) ++ threads_at_once (k + size p) ps

-- those of a component's plan, the main one first
abbrev pub threads : Plan → List Thread
threads plan = thread_of 0 plan ∷ inner_threads 0 plan

-- ---- which state each token is

-- what becomes of a piece of the token lowering: a wire stays, and the register of a token becomes a wire that is 1 in a state
pub data Place : Type 0 where
  NoState : Place
  IsIn : Token → State → Place

abbrev pub place_in : Token → Thread → ℕ → Place
place_in token thread n = IsIn token (record { thread = thread; number = n })

-- a part that starts by its own token, in its first state, and its other pieces
abbrev pub with_start_in : Thread → (n k : ℕ) → Plan → List Place → List Place
with_start_in thread n k p others = none_if_over p (place_in (Starting k) thread n ∷ others)

-- the places of the pieces of the part with number k, which takes a row, stands in the thread and has its states from n on
abbrev mutual
  pub places : Thread → (n k : ℕ) → Plan → List Place
  places thread n k (Enables actor) = NoState ∷ place_in (Going k) thread n ∷ []
  places thread n k (InTurn ps) = NoState ∷ places_in_turn thread (n + 1) (k + 1) ps
  places thread n k (AtOnce ps) = NoState ∷ places_at_once (k + 1) ps
  places thread n k (Chooses port by on off) =
      NoState ∷ with_start_in thread (n + 1) (k + 1) on (places thread (n + 1) (k + 1) on)
      ++ with_start_in thread (n + 1 + lasting_states on) (k + 1 + size on) off (places thread (n + 1 + lasting_states on) (k + 1 + size on) off)
  places thread n k (Repeats port by body) =
      NoState ∷ place_in (Again k) thread n ∷ with_start_in thread (n + 1) (k + 1) body (places thread (n + 1) (k + 1) body)

  -- of plans in turn, the first that takes a row starts where they do, each other one by its own token
  pub places_in_turn : Thread → (n k : ℕ) → Plans → List Place
  places_in_turn thread n k NoPlans = []
  places_in_turn thread n k (MorePlans p ps) =
      if is_over p then places_in_turn thread n (k + size p) ps
      else places thread n k p ++ places_after thread (n + states p) (k + size p) ps

  pub places_after : Thread → (n k : ℕ) → Plans → List Place
  places_after thread n k NoPlans = []
  places_after thread n k (MorePlans p ps) =
      if is_over p then places_after thread n (k + size p) ps
      else with_start_in thread n k p (places thread n k p) ++ places_after thread (n + states p) (k + size p) ps

  -- each of plans at once has its own thread
  pub places_at_once : (k : ℕ) → Plans → List Place
  places_at_once k NoPlans = []
  places_at_once k (MorePlans p ps) =
      none_if_over p (place_in (Ended k) (thread_of k p) ended_state ∷ places (thread_of k p) first_state k p) ++ places_at_once (k + size p) ps

-- those of the pieces of a component's plan
abbrev pub plan_places : Plan → List Place
plan_places plan = none_if_over plan (places (thread_of 0 plan) first_state 0 plan)
