-- The actors that a plan wants in the row in which it starts are those that act in it there.
use Rattle.std.proofs.Common.{◌≡◌, ◌⊎◌, ℕ, ◌+◌, ◌<◌, ◌≤◌, Bool, true, false, not, ◌&&◌, ◌||◌, Option, Some, None, refl, sym, ap, subst, inl, inr, arith}
use Rattle.std.specs.Prelude.{if◌then◌else◌}
use Rattle.std.proofs.lemmas.Bool.{cases_Bool, or_cases, or_left, or_right, and_parts, and_from, not_from_false}
use Rattle.std.proofs.lemmas.Bool.Decides.{Decides-eqb}
use Rattle.std.proofs.lemmas.Slice.Eq.{bytes_eq-Decides}
use Rattle.cal_ast.specs.Actors.{Actor, GroupNamed, InvokeAt, same_actor}
use Rattle.cal_ast.specs.Plan.{Plan, Enables, InTurn, AtOnce, Chooses, Repeats, Plans, NoPlans, MorePlans}
use Rattle.cal_ast.specs.Spans.{View, AtStart, Spans, ActsInTest, Acts, ActsInTurn, ActsAtOnce}
use Rattle.cal_walk.specs.Left.{is_over, is_by, enables, enables_in_turn, enables_at_once, tests, tests_in_turn, tests_at_once, wants}
use Rattle.cal_walk.proofs.LeftLemmas.{acts_within, lasts, over_end, over_spans, over_acts, spans_from, tested_from, tested_first}

pub same_actor_of : (a b : Actor) → a ≡ b → same_actor a b ≡ true
same_actor_of (GroupNamed x) (GroupNamed y) e = (bytes_eq-Decides x y).1 (cc)
same_actor_of (InvokeAt j) (InvokeAt k) e = (Decides-eqb j k).1 (cc)
same_actor_of (GroupNamed x) (InvokeAt k) e = absurd (cc)
same_actor_of (InvokeAt j) (GroupNamed y) e = absurd (cc)

pub of_same_actor : (a b : Actor) → same_actor a b ≡ true → a ≡ b
of_same_actor (GroupNamed x) (GroupNamed y) e = ap GroupNamed ((bytes_eq-Decides x y).0 e)
of_same_actor (InvokeAt j) (InvokeAt k) e = ap InvokeAt ((Decides-eqb j k).0 e)
of_same_actor (GroupNamed x) (InvokeAt k) e = absurd (cc)
of_same_actor (InvokeAt j) (GroupNamed y) e = absurd (cc)

by_of : (by : Option Actor) (actor : Actor) → by ≡ Some actor → is_by by actor ≡ true
by_of None actor e = absurd (cc)
by_of (Some other) actor e = same_actor_of other actor (cc)

of_by : (by : Option Actor) (actor : Actor) → is_by by actor ≡ true → by ≡ Some actor
of_by None actor e = absurd (cc)
of_by (Some other) actor e = ap Some (of_same_actor other actor e)

module _ (v : View) (t : ℕ) (actor : Actor) where
  -- a test in which the actor acts, or the actor is enabled and not done
  abbrev IsWanted : Bool → Bool → Type 0
  IsWanted test enabled = (test ≡ true) ⊎ ((enabled ≡ true) × (v.done actor t ≡ false))

  either_wanted : (a b c d : Bool) → IsWanted a c ⊎ IsWanted b d → IsWanted (a || b) (c || d)
  either_wanted a b c d (inl (inl test)) = inl (or_left a b test)
  either_wanted a b c d (inl (inr (on, more))) = inr (or_left c d on, more)
  either_wanted a b c d (inr (inl test)) = inl (or_right a b test)
  either_wanted a b c d (inr (inr (on, more))) = inr (or_right c d on, more)

  of_either : (a b c d : Bool) → IsWanted (a || b) (c || d) → IsWanted a c ⊎ IsWanted b d
  of_either a b c d (inl test) = elim (or_cases a b test) [ inl here ↦ inl (inl here) | inr here ↦ inr (inl here) ]
  of_either a b c d (inr (on, more)) = elim (or_cases c d on) [ inl here ↦ inl (inr (here, more)) | inr here ↦ inr (inr (here, more)) ]

  in_test : (by : Option Actor) → t < v.rows → is_by by actor ≡ true → ActsInTest v by t actor t
  in_test by here is = record { is = of_by by actor is; here = refl; within = here }

  mutual
    wanted : (p : Plan) → Acts v p t actor t → IsWanted (tests p actor) (enables p actor)
    wanted (Enables a) acts = inr (same_actor_of a actor acts.is, acts.not_done t (omega arith) (omega arith))
    wanted (InTurn ps) acts = wanted_in_turn ps acts
    wanted (AtOnce ps) acts = wanted_at_once ps acts
    wanted (Chooses port by on off) (inl test) = inl (by_of by actor test.is)
    wanted (Chooses port by on off) (inr (inl (here, reads, acts))) = let later : t + 1 ≤ t = (acts_within v on (t + 1) actor t acts).0 in absurd (omega arith)
    wanted (Chooses port by on off) (inr (inr (here, reads, acts))) = let later : t + 1 ≤ t = (acts_within v off (t + 1) actor t acts).0 in absurd (omega arith)
    wanted (Repeats port by body) (s, tested, inl test) = inl (by_of by actor test.is)
    wanted (Repeats port by body) (s, tested, inr (here, reads, acts)) =
        let later : (s + 1) ≤ t = (acts_within v body (s + 1) actor t acts).0 in
        elim (tested_first v port (Spans v body) t s tested) [
          | inl same ↦ absurd (omega arith)
          | inr (there, first, (next, turn, more)) ↦
              let one : t + 1 ≤ next = spans_from v body (t + 1) next turn in
              let two : next ≤ s = tested_from v port (Spans v body) next s (spans_from v body) more in
              absurd (omega arith)
        ]

    wanted_in_turn : (ps : Plans) → ActsInTurn v ps t actor t → IsWanted (tests_in_turn ps actor) (enables_in_turn ps actor)
    wanted_in_turn NoPlans acts = absurd acts
    wanted_in_turn (MorePlans p ps) acts =
        let W : Bool → Type 0 = λ b. IsWanted (if b then tests_in_turn ps actor else tests p actor) (if b then enables_in_turn ps actor else enables p actor) in
        elim (cases_Bool (is_over p)) [
          | inl over ↦
              let rest : IsWanted (tests_in_turn ps actor) (enables_in_turn ps actor) = elim acts [
                | inl first ↦ absurd (over_acts v p t actor t over first)
                | inr (next, spans, others) ↦
                    let A : ℕ → Type 0 = λ x. ActsInTurn v ps x actor t in wanted_in_turn ps (subst A (over_end v p t next over spans) others)
              ] in
              subst W (sym over) rest
          | inr more ↦
              let rest : IsWanted (tests p actor) (enables p actor) = elim acts [
                | inl first ↦ wanted p first
                | inr (next, spans, others) ↦
                    let later : t < next = (lasts v p t next more spans).0 in
                    let from : next ≤ t = (acts_within v (InTurn ps) next actor t others).0 in
                    absurd (omega arith)
              ] in
              subst W (sym more) rest
        ]

    wanted_at_once : (ps : Plans) → ActsAtOnce v ps t actor t → IsWanted (tests_at_once ps actor) (enables_at_once ps actor)
    wanted_at_once NoPlans acts = absurd acts
    wanted_at_once (MorePlans p ps) (inl acts) =
        either_wanted (tests p actor) (tests_at_once ps actor) (enables p actor) (enables_at_once ps actor) (inl (wanted p acts))
    wanted_at_once (MorePlans p ps) (inr acts) =
        either_wanted (tests p actor) (tests_at_once ps actor) (enables p actor) (enables_at_once ps actor) (inr (wanted_at_once ps acts))

  module _ (here : t < v.rows) where
    mutual
      wanted_acts : (p : Plan) → IsWanted (tests p actor) (enables p actor) → Acts v p t actor t
      wanted_acts (Enables a) (inl test) = absurd (cc)
      wanted_acts (Enables a) (inr (on, more)) =
          let D : ℕ → Type 0 = λ x. v.done actor x ≡ false in
          record { is = of_same_actor a actor on; from = omega arith; within = here; not_done = λ row from before. let same : t ≡ row = omega arith in subst D same more }
      wanted_acts (InTurn ps) is = wanted_acts_in_turn ps is
      wanted_acts (AtOnce ps) is = wanted_acts_at_once ps is
      wanted_acts (Chooses port by on off) (inl test) = inl (in_test by here test)
      wanted_acts (Chooses port by on off) (inr (on', more)) = absurd (cc)
      wanted_acts (Repeats port by body) (inl test) = (t, AtStart, inl (in_test by here test))
      wanted_acts (Repeats port by body) (inr (on', more)) = absurd (cc)

      wanted_acts_in_turn : (ps : Plans) → IsWanted (tests_in_turn ps actor) (enables_in_turn ps actor) → ActsInTurn v ps t actor t
      wanted_acts_in_turn NoPlans (inl test) = absurd (cc)
      wanted_acts_in_turn NoPlans (inr (on, more)) = absurd (cc)
      wanted_acts_in_turn (MorePlans p ps) is =
          let W : Bool → Type 0 = λ b. IsWanted (if b then tests_in_turn ps actor else tests p actor) (if b then enables_in_turn ps actor else enables p actor) in
          elim (cases_Bool (is_over p)) [
            | inl over ↦ inr (t, over_spans v p t over, wanted_acts_in_turn ps (subst W over is))
            | inr more ↦ inl (wanted_acts p (subst W more is))
          ]

      wanted_acts_at_once : (ps : Plans) → IsWanted (tests_at_once ps actor) (enables_at_once ps actor) → ActsAtOnce v ps t actor t
      wanted_acts_at_once NoPlans (inl test) = absurd (cc)
      wanted_acts_at_once NoPlans (inr (on, more)) = absurd (cc)
      wanted_acts_at_once (MorePlans p ps) is = elim (of_either (tests p actor) (tests_at_once ps actor) (enables p actor) (enables_at_once ps actor) is) [
        | inl first ↦ inl (wanted_acts p first)
        | inr others ↦ inr (wanted_acts_at_once ps others)
      ]

    pub wants_acts : (p : Plan) → wants p actor (v.done actor t) ≡ true → Acts v p t actor t
    wants_acts p is = elim (or_cases (tests p actor) (enables p actor && not (v.done actor t)) is) [
      | inl test ↦ wanted_acts p (inl test)
      | inr on ↦ let both = and_parts (enables p actor) (not (v.done actor t)) on in wanted_acts p (inr (both.0, not_true (v.done actor t) both.1))
    ]
      where
        not_true : (b : Bool) → not b ≡ true → b ≡ false
        not_true true e = absurd (cc)
        not_true false e = refl

  pub acts_wants : (p : Plan) → Acts v p t actor t → wants p actor (v.done actor t) ≡ true
  acts_wants p acts = elim (wanted p acts) [
    | inl test ↦ or_left (tests p actor) (enables p actor && not (v.done actor t)) test
    | inr (on, more) ↦ or_right (tests p actor) (enables p actor && not (v.done actor t)) (and_from (enables p actor) (not (v.done actor t)) on (not_from_false (v.done actor t) more))
  ]
