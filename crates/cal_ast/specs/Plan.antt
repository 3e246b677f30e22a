-- Control without its syntax: actors are enabled, and plans go one after another, at once, by choice or again and again. Calyx, ASPLOS 2021; the words
-- are this project's.
use Rattle.std.specs.Prelude.{ℕ, ◌+◌, length, Option, option_map}
use Rattle.cal_ast.specs.Actors.{Actor, GroupNamed, InvokeAt}
use Rattle.cal_ast.specs.Items.{items_before_control, statements_in, unless_empty}
use Rattle.cal_ast.specs.Tree.{PortName, Statement, Enable, Seq, Par, If, While, Invoke, Statements, NoStatements, MoreStatements}
use Rattle.cal_ast.specs.Tree.{ControlSection, Absent, Empty, Body, Component}

mutual
  pub data Plan : Type 0 where
    -- the actor acts until it is done
    Enables : Actor → Plan
    -- one plan after another
    InTurn : Plans → Plan
    -- all plans at once, until the last has ended
    AtOnce : Plans → Plan
    -- one of two plans, as the port says in a row in which this actor acts, if there is one
    Chooses : PortName → Option Actor → (on off : Plan) → Plan
    -- the body again and again, as long as the port says so in a row in which this actor acts, if there is one
    Repeats : PortName → Option Actor → (body : Plan) → Plan

  pub data Plans : Type 0 where
    NoPlans : Plans
    MorePlans : Plan → Plans → Plans

-- the plan of a statement at item k, and of statements the first of which is at item k: an invoke enables its own actor
abbrev mutual
  pub plan_at : ℕ → Statement → Plan
  plan_at k (Enable name) = Enables (GroupNamed name)
  plan_at k (Seq ss) = InTurn (plans_from (k + 1) ss)
  plan_at k (Par ss) = AtOnce (plans_from (k + 1) ss)
  plan_at k (If port by s t) =
      Chooses port (option_map GroupNamed by) (plan_at (k + 1) s) (plan_at (k + 1 + length (unless_empty s (statements_in s))) t)
  plan_at k (While port by s) = Repeats port (option_map GroupNamed by) (plan_at (k + 1) s)
  plan_at k (Invoke cell ins outs) = Enables (InvokeAt k)

  pub plans_from : ℕ → Statements → Plans
  plans_from k NoStatements = NoPlans
  plans_from k (MoreStatements s ss) = MorePlans (plan_at k s) (plans_from (k + length (statements_in s)) ss)

-- an absent or an empty control section is a plan of nothing
abbrev pub section_plan : ℕ → ControlSection → Plan
section_plan k Absent = InTurn NoPlans
section_plan k Empty = InTurn NoPlans
section_plan k (Body s) = plan_at k s

abbrev pub plan_of : Component → Plan
plan_of c = section_plan (length (items_before_control c)) c.control
