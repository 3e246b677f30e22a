-- The number of a state is at most its thread's greatest, and so fits the thread's register.
use Rattle.std.proofs.Common.{◌≡◌, ℕ, ◌+◌, ◌≤◌, ◌<◌, ◌^◌, List, [], ◌∷◌, ◌++◌, Bool, true, false, refl, arith}
use Rattle.std.specs.Prelude.{if◌then◌else◌}
use Rattle.cal_ast.specs.Plan.{Plan, Enables, InTurn, AtOnce, Chooses, Repeats, Plans, NoPlans, MorePlans}
use Rattle.cal_ast.specs.Typing.{LiteralFits}
use Rattle.cal_token.specs.inside.Tokens.{Starting, size, sizes}
use Rattle.cal_walk.specs.Left.{is_over}
use Rattle.cal_lower.specs.inside.Parts.{none_if_over}
use Rattle.cal_lower.proofs.ListLemmas.{Each, each_append}
use Rattle.net_core.specs.declared.net.Src.TheVariants.{Lit}
use Rattle.cal_state.specs.inside.States.{width_of}
use Rattle.cal_state.specs.inside.Threads.{Thread, Place, NoState, IsIn, place_in, with_start_in, places, places_in_turn, places_after, places_at_once, plan_places}
use Rattle.cal_state.specs.inside.Threads.{thread_of, first_state, lasting_states, states, states_in, zero_if_over}
use Rattle.cal_state.proofs.PlaceLemmas.{branch, lasting_is, over_none, some_states}
use Rattle.cal_state.proofs.WidthLemmas.{width_is}

-- ---- a plan has no more states than parts

unless_small : (p : Plan) (n : ℕ) → n ≤ size p → zero_if_over p n ≤ size p
unless_small p n less = by (is_over p)
  where
    by : (b : Bool) → (if b then 0 else n) ≤ size p
    by true = omega arith
    by false = less

mutual
  states_small : (p : Plan) → states p ≤ size p
  states_small (Enables actor) = omega arith
  states_small (InTurn ps) = let rest = states_small_in ps in omega (arith, rest)
  states_small (AtOnce ps) = omega arith
  states_small (Chooses port by on off) =
      let one = unless_small on (states on) (states_small on) in
      let two = unless_small off (states off) (states_small off) in
      omega (arith, one, two)
  states_small (Repeats port by body) = let rest = unless_small body (states body) (states_small body) in omega (arith, rest)

  states_small_in : (ps : Plans) → states_in ps ≤ sizes ps
  states_small_in NoPlans = omega arith
  states_small_in (MorePlans p ps) =
      let one = unless_small p (states p) (states_small p) in
      let rest = states_small_in ps in
      omega (arith, one, rest)

pub lasting_small : (p : Plan) → lasting_states p ≤ size p
lasting_small p = unless_small p (states p) (states_small p)

-- ---- the numbers of states

-- no thread has a greater state than the bound
module _ (bound : ℕ) where
  abbrev pub IsWithin : Place → Type 0
  IsWithin NoState = Unit {0}
  IsWithin (IsIn token state) = (state.number ≤ state.thread.last) × (state.thread.last ≤ bound)

  abbrev Within : List Place → Type 0
  Within xs = Each IsWithin xs

  unless_within : (p : Plan) (xs : List Place) → (is_over p ≡ false → Within xs) → Within (none_if_over p xs)
  unless_within p xs f = by (is_over p) f
    where
      by : (b : Bool) → (b ≡ false → Within xs) → Within (if b then [] else xs)
      by true g = tt
      by false g = g refl

  within_by : (b : Bool) (xs ys : List Place) → (b ≡ true → Within xs) → (b ≡ false → Within ys) → Within (if b then xs else ys)
  within_by true xs ys f g = f refl
  within_by false xs ys f g = g refl

  -- a part that starts by its own token
  later_within : (thread : Thread) (n k : ℕ) (p : Plan) → thread.last ≤ bound → n + lasting_states p ≤ thread.last + 1
      → (n + states p ≤ thread.last + 1 → Within (places thread n k p)) → (1 ≤ states p) → Within (with_start_in thread n k p (places thread n k p))
  later_within thread n k p small room inner some =
      unless_within p (place_in (Starting k) thread n ∷ places thread n k p) (λ more.
      let is = lasting_is p more in ((omega (arith, room, is, some), small), inner (omega (arith, room, is))))

  mutual
    part_within : (thread : Thread) (n k : ℕ) (p : Plan) → thread.last ≤ bound → n + states p ≤ thread.last + 1 → size p < bound → Within (places thread n k p)
    part_within thread n k (Enables actor) small room few = (tt, ((omega (arith, room), small), tt))
    part_within thread n k (InTurn ps) small room few = (tt, in_turn_within thread (n + 1) (k + 1) ps small (omega (arith, room)) (omega (arith, few)))
    part_within thread n k (AtOnce ps) small room few = (tt, at_once_within (k + 1) ps (omega (arith, few)))
    part_within thread n k (Chooses port by on off) small room few =
        let m : ℕ = n + 1 + lasting_states on in
        let j : ℕ = k + 1 + size on in (
          tt,
          each_append IsWithin (with_start_in thread (n + 1) (k + 1) on (places thread (n + 1) (k + 1) on)) (with_start_in thread m j off (places thread m j off))
              (later_within thread (n + 1) (k + 1) on small (omega (arith, room)) (λ fits. part_within thread (n + 1) (k + 1) on small fits (omega (arith, few))) (some_states on))
              (later_within thread m j off small (omega (arith, room)) (λ fits. part_within thread m j off small fits (omega (arith, few))) (some_states off)),
        )
    part_within thread n k (Repeats port by body) small room few = (
      tt,
      (
        (omega (arith, room), small),
        later_within thread (n + 1) (k + 1) body small (omega (arith, room)) (λ fits. part_within thread (n + 1) (k + 1) body small fits (omega (arith, few))) (some_states body),
      ),
    )

    in_turn_within : (thread : Thread) (n k : ℕ) (ps : Plans) → thread.last ≤ bound → n + states_in ps ≤ thread.last + 1 → sizes ps < bound → Within (places_in_turn thread n k ps)
    in_turn_within thread n k NoPlans small room few = tt
    in_turn_within thread n k (MorePlans p ps) small room few =
        within_by (is_over p) (places_in_turn thread n (k + size p) ps) (places thread n k p ++ places_after thread (n + states p) (k + size p) ps)
        (λ over. let none = over_none p over in in_turn_within thread n (k + size p) ps small (omega (arith, room, none)) (omega (arith, few)))
        (λ more.
        let is = lasting_is p more in
        each_append IsWithin (places thread n k p) (places_after thread (n + states p) (k + size p) ps)
        (part_within thread n k p small (omega (arith, room, is)) (omega (arith, few)))
        (after_within thread (n + states p) (k + size p) ps small (omega (arith, room, is)) (omega (arith, few))))

    after_within : (thread : Thread) (n k : ℕ) (ps : Plans) → thread.last ≤ bound → n + states_in ps ≤ thread.last + 1 → sizes ps < bound → Within (places_after thread n k ps)
    after_within thread n k NoPlans small room few = tt
    after_within thread n k (MorePlans p ps) small room few =
        within_by (is_over p) (places_after thread n (k + size p) ps) (with_start_in thread n k p (places thread n k p) ++ places_after thread (n + states p) (k + size p) ps)
        (λ over. let none = over_none p over in after_within thread n (k + size p) ps small (omega (arith, room, none)) (omega (arith, few)))
        (λ more.
        let is = lasting_is p more in
        each_append IsWithin (with_start_in thread n k p (places thread n k p)) (places_after thread (n + states p) (k + size p) ps)
        (later_within thread n k p small (omega (arith, room)) (λ fits. part_within thread n k p small fits (omega (arith, few))) (some_states p))
        (after_within thread (n + states p) (k + size p) ps small (omega (arith, room, is)) (omega (arith, few))))

    at_once_within : (k : ℕ) (ps : Plans) → sizes ps < bound → Within (places_at_once k ps)
    at_once_within k NoPlans few = tt
    at_once_within k (MorePlans p ps) few =
        each_append IsWithin (none_if_over p (branch k p)) (places_at_once (k + size p) ps)
        (unless_within p (branch k p) (λ more.
        let is = lasting_is p more in
        let less = lasting_small p in (
          (omega arith, omega (arith, few, less)),
          part_within (thread_of k p) first_state k p (omega (arith, few, less)) (omega (arith, is)) (omega (arith, few)),
        )))
        (at_once_within (k + size p) ps (omega (arith, few)))

-- the states of a plan
pub plan_within : (bound : ℕ) (plan : Plan) → size plan < bound → Each (IsWithin bound) (plan_places plan)
plan_within bound plan few =
    unless_within bound plan (places (thread_of 0 plan) first_state 0 plan) (λ more.
    let is = lasting_is plan more in
    let less = lasting_small plan in
    part_within bound (thread_of 0 plan) first_state 0 plan (omega (arith, few, less)) (omega (arith, is)) few)

-- ---- literals

-- a number up to the thread's greatest fits its register
pub state_fits : (thread : Thread) (n : ℕ) → n ≤ thread.last → thread.last ≤ 2 ^ 64 + 1 → LiteralFits (Lit (width_of thread) n)
state_fits thread n within small =
    let is = width_is thread in
    let all : thread.last < 2 ^ 128 = omega (arith, small) in
    let last : thread.last < 2 ^ width_of thread = is.fits all in
    ((is.some, is.few), omega (arith, within, last))
