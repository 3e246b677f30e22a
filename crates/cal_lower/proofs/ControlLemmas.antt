-- Registers that start, run and end control as their wires say, with the tokens of its plan, stand before each row where control has come to.
use Rattle.std.proofs.Common.{◌≡◌, ℕ, zero, suc, ◌<◌, Bool, true, false, not, ◌&&◌, ◌||◌, refl, sym, ap, subst, inl, inr, ◌∙◌, arith}
use Rattle.std.specs.Prelude.{if◌then◌else◌}
use Rattle.std.proofs.lemmas.Bool.{cases_Bool, both_ways, and_right}
use Rattle.cal_ast.specs.Actors.{Actor}
use Rattle.cal_ast.specs.Plan.{Plan, Enables, InTurn, AtOnce, Chooses, Repeats, Plans, NoPlans, MorePlans}
use Rattle.cal_ast.specs.Spans.{View}
use Rattle.cal_walk.specs.Left.{sight_at, is_over, are_over, left, enables, tests}
use Rattle.cal_walk.specs.Stages.{Progress, Waits, GoesOn, Ends, progress_of, next_progress, progress_at, acts_now, is_done_now, enabled_now, tested_now}
use Rattle.cal_token.proofs.OverLemmas.{over_enables, over_tests, over_left}
use Rattle.cal_token.proofs.TestLemmas.{and_true}
use Rattle.cal_token.proofs.TokenLemmas.{tokens_walk_control}
use Rattle.cal_token.specs.inside.Coming.{IsOff, Leaves}
use Rattle.cal_token.specs.inside.Laws.{ComesTo, Walks, StaysOff}
use Rattle.cal_token.specs.inside.Tokens.{Token, ends, enables_by, tests_by, Steps}
use Rattle.std.proofs.lemmas.Bool.{and_parts}
use Rattle.cal_ast.specs.Actors.{same_actor}
use Rattle.std.specs.Prelude.{Option}
use Rattle.cal_walk.specs.Left.{is_by}
use Rattle.cal_lower.proofs.ActingLemmas.{never_enabled, never_tested}
use Rattle.cal_lower.proofs.GuardLemmas.{or_false}
use Rattle.cal_lower.proofs.PartLemmas.{EachEnabled, EachEnabledIn, EachTested, EachTestedIn}

-- a plan that takes no row names no actor
mutual
  pub over_each_enabled : (P : Actor → Type 0) (p : Plan) → is_over p ≡ true → EachEnabled P p
  over_each_enabled P (Enables actor) over = absurd (cc)
  over_each_enabled P (InTurn ps) over = over_each_enabled_in P ps over
  over_each_enabled P (AtOnce ps) over = over_each_enabled_in P ps over
  over_each_enabled P (Chooses port by on off) over = absurd (cc)
  over_each_enabled P (Repeats port by body) over = absurd (cc)

  over_each_enabled_in : (P : Actor → Type 0) (ps : Plans) → are_over ps ≡ true → EachEnabledIn P ps
  over_each_enabled_in P NoPlans over = tt
  over_each_enabled_in P (MorePlans p ps) over =
      let each = and_parts (is_over p) (are_over ps) over in (over_each_enabled P p each.0, over_each_enabled_in P ps each.1)

mutual
  pub over_each_tested : (P : Option Actor → Type 0) (p : Plan) → is_over p ≡ true → EachTested P p
  over_each_tested P (Enables actor) over = tt
  over_each_tested P (InTurn ps) over = over_each_tested_in P ps over
  over_each_tested P (AtOnce ps) over = over_each_tested_in P ps over
  over_each_tested P (Chooses port by on off) over = absurd (cc)
  over_each_tested P (Repeats port by body) over = absurd (cc)

  over_each_tested_in : (P : Option Actor → Type 0) (ps : Plans) → are_over ps ≡ true → EachTestedIn P ps
  over_each_tested_in P NoPlans over = tt
  over_each_tested_in P (MorePlans p ps) over =
      let each = and_parts (is_over p) (are_over ps) over in (over_each_tested P p each.0, over_each_tested_in P ps each.1)

-- what holds of one thing that a plan names may give another
mutual
  pub enabled_weaker : (P Q : Actor → Type 0) → ((actor : Actor) → P actor → Q actor) → (p : Plan) → EachEnabled P p → EachEnabled Q p
  enabled_weaker P Q f (Enables actor) all = f actor all
  enabled_weaker P Q f (InTurn ps) all = enabled_weaker_in P Q f ps all
  enabled_weaker P Q f (AtOnce ps) all = enabled_weaker_in P Q f ps all
  enabled_weaker P Q f (Chooses port by on off) all = (enabled_weaker P Q f on all.0, enabled_weaker P Q f off all.1)
  enabled_weaker P Q f (Repeats port by body) all = enabled_weaker P Q f body all

  enabled_weaker_in : (P Q : Actor → Type 0) → ((actor : Actor) → P actor → Q actor) → (ps : Plans) → EachEnabledIn P ps → EachEnabledIn Q ps
  enabled_weaker_in P Q f NoPlans all = tt
  enabled_weaker_in P Q f (MorePlans p ps) all = (enabled_weaker P Q f p all.0, enabled_weaker_in P Q f ps all.1)

mutual
  pub tested_weaker : (P Q : Option Actor → Type 0) → ((by : Option Actor) → P by → Q by) → (p : Plan) → EachTested P p → EachTested Q p
  tested_weaker P Q f (Enables actor) all = tt
  tested_weaker P Q f (InTurn ps) all = tested_weaker_in P Q f ps all
  tested_weaker P Q f (AtOnce ps) all = tested_weaker_in P Q f ps all
  tested_weaker P Q f (Chooses port by on off) all = (f by all.0, tested_weaker P Q f on all.1, tested_weaker P Q f off all.2)
  tested_weaker P Q f (Repeats port by body) all = (f by all.0, tested_weaker P Q f body all.1)

  tested_weaker_in : (P Q : Option Actor → Type 0) → ((by : Option Actor) → P by → Q by) → (ps : Plans) → EachTestedIn P ps → EachTestedIn Q ps
  tested_weaker_in P Q f NoPlans all = tt
  tested_weaker_in P Q f (MorePlans p ps) all = (tested_weaker P Q f p all.0, tested_weaker_in P Q f ps all.1)

-- what the bits of control are in the rows of a run: where it starts, runs and is over, its tokens, and where it ends
pub record Bits : Type 0 where
  pub start : ℕ → Bool
  pub busy : ℕ → Bool
  pub over : ℕ → Bool
  pub tokens : ℕ → Token → Bool
  pub last : ℕ → Bool

-- they follow from one another
pub record AreControl (plan : Plan) (view : View) (go : ℕ → Bool) (height : ℕ) (b : Bits) : Type 0 where
  pub idle : 0 < height → (b.busy 0 ≡ false) × (b.over 0 ≡ false)
  pub off : 0 < height → is_over plan ≡ false → IsOff (b.tokens 0) 0 plan
  pub starts : (t : ℕ) → t < height → b.start t ≡ (go t && (not (b.busy t) && (not (b.over t) && true)))
  pub runs : (t : ℕ) → suc t < height → b.busy (suc t) ≡ ((b.start t || b.busy t) && not (b.last t))
  pub is_done : (t : ℕ) → suc t < height → b.over (suc t) ≡ b.last t
  pub at_once : (t : ℕ) → suc t < height → is_over plan ≡ true → b.last t ≡ b.start t
  pub ends : (t : ℕ) → suc t < height → is_over plan ≡ false → b.last t ≡ ends (b.tokens t) (sight_at view t) 0 plan (b.start t)
  pub steps : (t : ℕ) → suc t < height → is_over plan ≡ false → Steps (b.tokens t) (sight_at view t) 0 plan (b.start t) (b.tokens (suc t))

-- whether control goes on, or starts, in the row
abbrev pub is_on_row : Progress → Bool → Bool
is_on_row Waits go = go
is_on_row (GoesOn p) go = true
is_on_row Ends go = true

pub acts_now-is : (plan : Plan) (x : Progress) (actor : Actor) (go done : Bool)
    → acts_now plan x actor go done ≡ (is_on_row x go && (tested_now plan x actor || (enabled_now plan x actor && not done)))
acts_now-is plan Waits actor go done = refl
acts_now-is plan (GoesOn p) actor go done = refl
acts_now-is plan Ends actor go done = refl

-- an actor that is never enabled, and one that never acts in a test
pub acts_in_test : (on tested enabled done : Bool) → (on && enabled) ≡ false → (on && tested) ≡ (on && (tested || (enabled && not done)))
acts_in_test false tested enabled done none = refl
acts_in_test true tested false done none = sym (or_false tested)
acts_in_test true tested true done none = absurd (cc)

pub acts_enabled : (on tested enabled done : Bool) → (on && tested) ≡ false → ((on && enabled) && not done) ≡ (on && (tested || (enabled && not done)))
acts_enabled false tested enabled done none = refl
acts_enabled true false enabled done none = refl
acts_enabled true true enabled done none = absurd (cc)

module _ (plan : Plan) (view : View) (go : ℕ → Bool) (height : ℕ) (b : Bits) (are : AreControl plan view go height b) where
  abbrev pub Off : ℕ → Type 0
  Off t = is_over plan ≡ false → IsOff (b.tokens t) 0 plan

  -- the registers and tokens before row t
  pub record IsResting (t : ℕ) (done : Bool) : Type 0 where
    pub busy : b.busy t ≡ false
    pub over : b.over t ≡ done
    pub off : Off t

  pub record IsRunning (t : ℕ) (p : Plan) : Type 0 where
    pub busy : b.busy t ≡ true
    pub over : b.over t ≡ false
    pub more : is_over plan ≡ false
    pub leaves : Leaves (b.tokens t) 0 plan p

  abbrev pub Stands : ℕ → Progress → Type 0
  Stands t Waits = IsResting t false
  Stands t (GoesOn p) = IsRunning t p
  Stands t Ends = IsResting t true

  abbrev start_by : ℕ → Bool → Bool → Bool
  start_by t busy over = go t && (not busy && (not over && true))

  start_is : (t : ℕ) (busy over : Bool) → t < height → b.busy t ≡ busy → b.over t ≡ over → b.start t ≡ start_by t busy over
  start_is t busy over within one other = are.starts t within ∙ ap (λ x. start_by t x (b.over t)) one ∙ ap (λ x. start_by t busy x) other

  -- where control waits it starts with go, and else it doesn't
  starts_with_go : (t : ℕ) → t < height → IsResting t false → b.start t ≡ go t
  starts_with_go t within r = start_is t false false within r.busy r.over ∙ and_true (go t)

  not_while_done : (t : ℕ) → t < height → IsResting t true → b.start t ≡ false
  not_while_done t within r = start_is t false true within r.busy r.over ∙ and_right (go t) false refl

  not_while_running : (t : ℕ) (p : Plan) → t < height → IsRunning t p → b.start t ≡ false
  not_while_running t p within r = start_is t true false within r.busy r.over ∙ and_right (go t) false refl

  -- the laws of the tokens in row t
  walks_from_start : (t : ℕ) → is_over plan ≡ false → Off t → Walks (b.tokens t) (sight_at view t) 0 plan plan true
  walks_from_start t more off = (tokens_walk_control (b.tokens t) (sight_at view t) 0 plan more).0 (off more)

  walks_on : (t : ℕ) (p : Plan) → IsRunning t p → Walks (b.tokens t) (sight_at view t) 0 plan p false
  walks_on t p r = (tokens_walk_control (b.tokens t) (sight_at view t) 0 plan r.more).1 p r.leaves

  stays_off : (t : ℕ) → is_over plan ≡ false → Off t → StaysOff (b.tokens t) (sight_at view t) 0 plan
  stays_off t more off = (tokens_walk_control (b.tokens t) (sight_at view t) 0 plan more).2 (off more)

  -- ---- the next row

  busy_next : (t : ℕ) (on last : Bool) → suc t < height → (b.start t || b.busy t) ≡ on → b.last t ≡ last → b.busy (suc t) ≡ (on && not last)
  busy_next t on last within one other = are.runs t within ∙ ap (λ x. x && not (b.last t)) one ∙ ap (λ x. on && not x) other

  -- after a row in which control goes on, this is left of it
  goes_on : (t : ℕ) (rest : Plan) → suc t < height → (b.start t || b.busy t) ≡ true → b.last t ≡ is_over rest → (is_over plan ≡ true → is_over rest ≡ true)
      → (is_over plan ≡ false → ComesTo (b.tokens (suc t)) 0 plan rest) → Stands (suc t) (progress_of rest)
  goes_on t rest within on last none comes =
      let S : Bool → Type 0 = λ x. Stands (suc t) (if x then Ends else GoesOn rest) in
      elim (cases_Bool (is_over rest)) [
        | inl over ↦ subst S (sym over) (record {
          busy = busy_next t true true within on (last ∙ over);
          over = are.is_done t within ∙ last ∙ over;
          off = λ more. (comes more).ended over;
        })
        | inr lasts ↦
            let more : is_over plan ≡ false = elim (cases_Bool (is_over plan)) [
              | inl over ↦ absurd (both_ways (is_over rest) lasts (none over))
              | inr m ↦ m
            ] in
            subst S (sym lasts) (record {
              busy = busy_next t true false within on (last ∙ lasts);
              over = are.is_done t within ∙ last ∙ lasts;
              more = more;
              leaves = (comes more).left lasts;
            })
      ]

  -- after one in which it doesn't, it waits
  waits : (t : ℕ) → suc t < height → b.start t ≡ false → b.busy t ≡ false → Off t → Stands (suc t) Waits
  waits t within start busy off =
      let on : (b.start t || b.busy t) ≡ false = ap (λ x. x || b.busy t) start ∙ busy in
      let last : b.last t ≡ false = elim (cases_Bool (is_over plan)) [
        | inl over ↦ are.at_once t within over ∙ start
        | inr more ↦ are.ends t within more ∙ ap (λ x. ends (b.tokens t) (sight_at view t) 0 plan x) start ∙ (stays_off t more off).last
      ] in
      record {
        busy = busy_next t false false within on last;
        over = are.is_done t within ∙ last;
        off = λ more.
            let S : Bool → Type 0 = λ x. Steps (b.tokens t) (sight_at view t) 0 plan x (b.tokens (suc t)) in
            (stays_off t more off).next (b.tokens (suc t)) (subst S start (are.steps t within more));
      }

  from_start : (t : ℕ) → suc t < height → b.start t ≡ true → Off t → Stands (suc t) (progress_of (left (sight_at view t) plan))
  from_start t within start off =
      let last : b.last t ≡ is_over (left (sight_at view t) plan) = elim (cases_Bool (is_over plan)) [
        | inl over ↦ are.at_once t within over ∙ start ∙ sym (over_left (sight_at view t) plan over)
        | inr more ↦ are.ends t within more ∙ ap (λ x. ends (b.tokens t) (sight_at view t) 0 plan x) start ∙ (walks_from_start t more off).last
      ] in
      goes_on t (left (sight_at view t) plan) within (ap (λ x. x || b.busy t) start) last (λ over. over_left (sight_at view t) plan over)
      (λ more.
      let S : Bool → Type 0 = λ x. Steps (b.tokens t) (sight_at view t) 0 plan x (b.tokens (suc t)) in
      (walks_from_start t more off).next (b.tokens (suc t)) (subst S start (are.steps t within more)))

  from_running : (t : ℕ) (p : Plan) → suc t < height → b.start t ≡ false → IsRunning t p → Stands (suc t) (progress_of (left (sight_at view t) p))
  from_running t p within start r =
      goes_on t (left (sight_at view t) p) within (ap (λ x. x || b.busy t) start ∙ r.busy)
      (are.ends t within r.more ∙ ap (λ x. ends (b.tokens t) (sight_at view t) 0 plan x) start ∙ (walks_on t p r).last)
      (λ over. absurd (both_ways (is_over plan) r.more over))
      (λ more.
      let S : Bool → Type 0 = λ x. Steps (b.tokens t) (sight_at view t) 0 plan x (b.tokens (suc t)) in
      (walks_on t p r).next (b.tokens (suc t)) (subst S start (are.steps t within more)))

  stands_next : (t : ℕ) → suc t < height → (x : Progress) → Stands t x → Stands (suc t) (next_progress plan (sight_at view t) (go t) x)
  stands_next t within Waits r =
      let now : t < height = omega arith in
      let S : Bool → Type 0 = λ on. Stands (suc t) (if on then progress_of (left (sight_at view t) plan) else Waits) in
      elim (cases_Bool (go t)) [
        | inl on ↦ subst S (sym on) (from_start t within (starts_with_go t now r ∙ on) r.off)
        | inr idle ↦ subst S (sym idle) (waits t within (starts_with_go t now r ∙ idle) r.busy r.off)
      ]
  stands_next t within (GoesOn p) r = let now : t < height = omega arith in from_running t p within (not_while_running t p now r) r
  stands_next t within Ends r = let now : t < height = omega arith in waits t within (not_while_done t now r) r.busy r.off

  pub stands_at : (t : ℕ) → t < height → Stands t (progress_at view go plan t)
  stands_at zero within = record { busy = (are.idle within).0; over = (are.idle within).1; off = are.off within }
  stands_at (suc t) within =
      let before : t < height = omega arith in stands_next t within (progress_at view go plan t) (stands_at t before)

  pub over_is : (t : ℕ) → t < height → b.over t ≡ is_done_now (progress_at view go plan t)
  over_is t within = by (progress_at view go plan t) (stands_at t within)
    where
      by : (x : Progress) → Stands t x → b.over t ≡ is_done_now x
      by Waits r = r.over
      by (GoesOn p) r = r.over
      by Ends r = r.over

  -- ---- what acts

  abbrev enabled_in : ℕ → Actor → Bool → Bool
  enabled_in t actor start = enables_by (b.tokens t) 0 plan start actor

  abbrev tested_in : ℕ → Actor → Bool → Bool
  tested_in t actor start = tests_by (b.tokens t) 0 plan start actor

  module _ (t : ℕ) (actor : Actor) where
    none_enabled : is_over plan ≡ true → (start : Bool) → enabled_in t actor start ≡ false
    none_enabled over start = never_enabled (b.tokens t) actor 0 plan start (over_each_enabled (λ other. same_actor other actor ≡ false) plan over)

    none_tested : is_over plan ≡ true → (start : Bool) → tested_in t actor start ≡ false
    none_tested over start = never_tested (b.tokens t) actor 0 plan start (over_each_tested (λ by. is_by by actor ≡ false) plan over)

    -- where control isn't on, nothing acts
    record ActsNot : Type 0 where
      enabled : enabled_in t actor (b.start t) ≡ false
      tested : tested_in t actor (b.start t) ≡ false

    acts_not : b.start t ≡ false → Off t → ActsNot
    acts_not start off = elim (cases_Bool (is_over plan)) [
      | inl over ↦ record { enabled = none_enabled over (b.start t); tested = none_tested over (b.start t) }
      | inr more ↦ record {
        enabled = ap (enabled_in t actor) start ∙ (stays_off t more off).enabled actor;
        tested = ap (tested_in t actor) start ∙ (stays_off t more off).tested actor;
      }
    ]

    record ActsAs (x : Progress) : Type 0 where
      enabled : enabled_in t actor (b.start t) ≡ (is_on_row x (go t) && enabled_now plan x actor)
      tested : tested_in t actor (b.start t) ≡ (is_on_row x (go t) && tested_now plan x actor)

    acts_as : t < height → (x : Progress) → Stands t x → ActsAs x
    acts_as within Waits r = elim (cases_Bool (go t)) [
      | inl on ↦ elim (cases_Bool (is_over plan)) [
        | inl over ↦ record {
          enabled = none_enabled over (b.start t) ∙ sym (and_right (go t) (enables plan actor) (over_enables actor plan over));
          tested = none_tested over (b.start t) ∙ sym (and_right (go t) (tests plan actor) (over_tests actor plan over));
        }
        | inr more ↦ record {
          enabled = ap (enabled_in t actor) (starts_with_go t within r ∙ on) ∙ (walks_from_start t more r.off).enabled actor
              ∙ sym (ap (λ x. x && enables plan actor) on);
          tested = ap (tested_in t actor) (starts_with_go t within r ∙ on) ∙ (walks_from_start t more r.off).tested actor
              ∙ sym (ap (λ x. x && tests plan actor) on);
        }
      ]
      | inr idle ↦
          let not_now : ActsNot = acts_not (starts_with_go t within r ∙ idle) r.off in
          record {
            enabled = not_now.enabled ∙ sym (ap (λ x. x && enables plan actor) idle);
            tested = not_now.tested ∙ sym (ap (λ x. x && tests plan actor) idle);
          }
    ]
    acts_as within (GoesOn p) r =
        let start : b.start t ≡ false = not_while_running t p within r in
        record {
          enabled = ap (enabled_in t actor) start ∙ (walks_on t p r).enabled actor;
          tested = ap (tested_in t actor) start ∙ (walks_on t p r).tested actor;
        }
    acts_as within Ends r =
        let not_now : ActsNot = acts_not (not_while_done t within r) r.off in
        record { enabled = not_now.enabled; tested = not_now.tested }

    pub enabled_is : t < height → enables_by (b.tokens t) 0 plan (b.start t) actor
        ≡ (is_on_row (progress_at view go plan t) (go t) && enabled_now plan (progress_at view go plan t) actor)
    enabled_is within = (acts_as within (progress_at view go plan t) (stands_at t within)).enabled

    pub tested_is : t < height → tests_by (b.tokens t) 0 plan (b.start t) actor
        ≡ (is_on_row (progress_at view go plan t) (go t) && tested_now plan (progress_at view go plan t) actor)
    tested_is within = (acts_as within (progress_at view go plan t) (stands_at t within)).tested
