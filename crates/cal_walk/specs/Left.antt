-- Control walked forward: what is left of a plan after each row, and which actors act in it. This project's.
use Rattle.std.specs.Prelude.{ℕ, Bool, true, false, not, ◌&&◌, ◌||◌, if◌then◌else◌, Option, Some, None}
use Rattle.cal_ast.specs.Actors.{Actor, same_actor}
use Rattle.cal_ast.specs.Plan.{Plan, Enables, InTurn, AtOnce, Chooses, Repeats, Plans, NoPlans, MorePlans}
use Rattle.cal_ast.specs.Spans.{View}
use Rattle.cal_ast.specs.Tree.{PortName}

-- what control sees of a row: which actors are done, and which ports read 1
pub record Sight : Type 0 where
  pub done : Actor → Bool
  pub reads : PortName → Bool

-- what it sees of row t
abbrev pub sight_at : View → ℕ → Sight
sight_at v t = record { done = λ actor. v.done actor t; reads = λ port. v.reads port t }

-- the plan takes no row
abbrev mutual
  pub is_over : Plan → Bool
  is_over (Enables actor) = false
  is_over (InTurn ps) = are_over ps
  is_over (AtOnce ps) = are_over ps
  is_over (Chooses port by on off) = false
  is_over (Repeats port by body) = false

  pub are_over : Plans → Bool
  are_over NoPlans = true
  are_over (MorePlans p ps) = is_over p && are_over ps

abbrev pub nothing : Plan
nothing = InTurn NoPlans

-- a plan, and plans after it
abbrev pub before_others : Plan → Plans → Plan
before_others p NoPlans = p
before_others p (MorePlans q qs) = InTurn (MorePlans p (MorePlans q qs))

-- what is left of the plan after a row in which it starts
abbrev mutual
  pub left : Sight → Plan → Plan
  left s (Enables actor) = if s.done actor then nothing else Enables actor
  left s (InTurn ps) = left_in_turn s ps
  left s (AtOnce ps) = AtOnce (left_at_once s ps)
  left s (Chooses port by on off) = if s.reads port then on else off
  left s (Repeats port by body) = if s.reads port then InTurn (MorePlans body (MorePlans (Repeats port by body) NoPlans)) else nothing

  pub left_in_turn : Sight → Plans → Plan
  left_in_turn s NoPlans = nothing
  left_in_turn s (MorePlans p ps) = if is_over p then left_in_turn s ps else before_others (left s p) ps

  pub left_at_once : Sight → Plans → Plans
  left_at_once s NoPlans = NoPlans
  left_at_once s (MorePlans p ps) = MorePlans (left s p) (left_at_once s ps)

abbrev pub is_by : Option Actor → Actor → Bool
is_by None actor = false
is_by (Some other) actor = same_actor other actor

-- the actor is enabled in the row in which the plan starts: it acts there unless it is done
abbrev mutual
  pub enables : Plan → Actor → Bool
  enables (Enables other) actor = same_actor other actor
  enables (InTurn ps) actor = enables_in_turn ps actor
  enables (AtOnce ps) actor = enables_at_once ps actor
  enables (Chooses port by on off) actor = false
  enables (Repeats port by body) actor = false

  pub enables_in_turn : Plans → Actor → Bool
  enables_in_turn NoPlans actor = false
  enables_in_turn (MorePlans p ps) actor = if is_over p then enables_in_turn ps actor else enables p actor

  pub enables_at_once : Plans → Actor → Bool
  enables_at_once NoPlans actor = false
  enables_at_once (MorePlans p ps) actor = enables p actor || enables_at_once ps actor

-- the row in which the plan starts is one of a test, in which the actor acts
abbrev mutual
  pub tests : Plan → Actor → Bool
  tests (Enables other) actor = false
  tests (InTurn ps) actor = tests_in_turn ps actor
  tests (AtOnce ps) actor = tests_at_once ps actor
  tests (Chooses port by on off) actor = is_by by actor
  tests (Repeats port by body) actor = is_by by actor

  pub tests_in_turn : Plans → Actor → Bool
  tests_in_turn NoPlans actor = false
  tests_in_turn (MorePlans p ps) actor = if is_over p then tests_in_turn ps actor else tests p actor

  pub tests_at_once : Plans → Actor → Bool
  tests_at_once NoPlans actor = false
  tests_at_once (MorePlans p ps) actor = tests p actor || tests_at_once ps actor

-- the actor acts in the row in which the plan starts
abbrev pub wants : Plan → Actor → Bool → Bool
wants p actor done = tests p actor || (enables p actor && not done)
