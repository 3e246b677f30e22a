-- The plans that code has, and what it has left of them, as plans, whatever actors and ports are numbered by. This project's.
use Rattle.std.specs.Prelude.{◌≡◌, ℕ, ◌<◌, Bool, List, [], ◌∷◌, map, All, IfSome, option_map, slice_get, Some}
use Rattle.cal_ast.specs.Actors.{Actor}
use Rattle.cal_ast.specs.Plan.{Plan, Enables, InTurn, AtOnce, Chooses, Repeats, Plans, NoPlans, MorePlans}
use Rattle.cal_ast.specs.Tree.{PortName}
use Rattle.cal_walk.specs.Left.{Sight, nothing}
use Rattle.cal_walk.specs.declared.plan.Plan as plan
use Rattle.cal_walk.specs.declared.plan.Plan.{Row_of-Plan, end_of-Plan, more_of-Plan}
use Rattle.cal_walk.specs.declared.left.Left as left
use Rattle.cal_walk.specs.declared.left.Left.{Row_of-Left, end_of-Left, more_of-Left}
use Rattle.cal_walk.specs.declared.seen.Seen.{Seen}

-- plans in a list
abbrev pub plans_of : List Plan → Plans
plans_of [] = NoPlans
plans_of (p ∷ ps) = MorePlans p (plans_of ps)

abbrev mutual
  pub plan_tree : (ℕ → Actor) → (ℕ → PortName) → plan.Plan → Plan
  plan_tree f h (plan.Enables actor) = Enables (f actor)
  plan_tree f h (plan.InTurn' shape ps) = InTurn (plan_trees f h ps)
  plan_tree f h (plan.AtOnce' shape ps) = AtOnce (plan_trees f h ps)
  plan_tree f h (plan.Chooses' condition by p on q off) = Chooses (h condition) (option_map f by) (plan_tree f h on) (plan_tree f h off)
  plan_tree f h (plan.Repeats' condition by p body) = Repeats (h condition) (option_map f by) (plan_tree f h body)

  pub plan_trees : {m : _} → (ℕ → Actor) → (ℕ → PortName) → Row_of-Plan m → Plans
  plan_trees f h end_of-Plan = NoPlans
  plan_trees f h (more_of-Plan p ps) = MorePlans (plan_tree f h p) (plan_trees f h ps)

-- those of a slice
abbrev pub slice_trees : (ℕ → Actor) → (ℕ → PortName) → List plan.Plan → Plans
slice_trees f h ps = plans_of (map (plan_tree f h) ps)

abbrev mutual
  pub left_tree : (ℕ → Actor) → (ℕ → PortName) → left.Left → Plan
  left_tree f h left.Nothing = nothing
  left_tree f h (left.Whole p) = plan_tree f h p.now
  left_tree f h (left.InTurn' p first others) = InTurn (MorePlans (left_tree f h first) (slice_trees f h others.now))
  left_tree f h (left.AtOnce' shape all) = AtOnce (left_trees f h all)
  left_tree f h (left.Again' p turn repeats) = InTurn (MorePlans (left_tree f h turn) (MorePlans (plan_tree f h repeats.now) NoPlans))

  pub left_trees : {m : _} → (ℕ → Actor) → (ℕ → PortName) → Row_of-Left m → Plans
  left_trees f h end_of-Left = NoPlans
  left_trees f h (more_of-Left l ls) = MorePlans (left_tree f h l) (left_trees f h ls)

-- numbers of actors and conditions are less than these
abbrev mutual
  pub IsWithin : (actors conditions : ℕ) → plan.Plan → Type 0
  IsWithin actors conditions (plan.Enables actor) = actor < actors
  IsWithin actors conditions (plan.InTurn' shape ps) = AreWithin actors conditions ps
  IsWithin actors conditions (plan.AtOnce' shape ps) = AreWithin actors conditions ps
  IsWithin actors conditions (plan.Chooses' condition by p on q off) =
      (condition < conditions) × IfSome by (λ actor. actor < actors) × IsWithin actors conditions on × IsWithin actors conditions off
  IsWithin actors conditions (plan.Repeats' condition by p body) =
      (condition < conditions) × IfSome by (λ actor. actor < actors) × IsWithin actors conditions body

  pub AreWithin : {m : _} → (actors conditions : ℕ) → Row_of-Plan m → Type 0
  AreWithin actors conditions end_of-Plan = Unit {0}
  AreWithin actors conditions (more_of-Plan p ps) = IsWithin actors conditions p × AreWithin actors conditions ps

abbrev mutual
  pub LeftIsWithin : (actors conditions : ℕ) → left.Left → Type 0
  LeftIsWithin actors conditions left.Nothing = Unit {0}
  LeftIsWithin actors conditions (left.Whole p) = IsWithin actors conditions p.now
  LeftIsWithin actors conditions (left.InTurn' p first others) = LeftIsWithin actors conditions first × All (IsWithin actors conditions) others.now
  LeftIsWithin actors conditions (left.AtOnce' shape all) = LeftsAreWithin actors conditions all
  LeftIsWithin actors conditions (left.Again' p turn repeats) = LeftIsWithin actors conditions turn × IsWithin actors conditions repeats.now

  pub LeftsAreWithin : {m : _} → (actors conditions : ℕ) → Row_of-Left m → Type 0
  LeftsAreWithin actors conditions end_of-Left = Unit {0}
  LeftsAreWithin actors conditions (more_of-Left l ls) = LeftIsWithin actors conditions l × LeftsAreWithin actors conditions ls

-- what code sees of a row is what control sees of it
pub record IsSeen (f : ℕ → Actor) (h : ℕ → PortName) (s : Sight) (seen : Seen) : Type 0 where
  pub done : (actor : ℕ) (b : Bool) → slice_get seen.done.items actor ≡ Some b → s.done (f actor) ≡ b
  pub reads : (condition : ℕ) (b : Bool) → slice_get seen.reads.items condition ≡ Some b → s.reads (h condition) ≡ b
