use Rattle.std.proofs.Common.{List, map, take}
use Rattle.hw_names.specs.Name.{Text}
use Rattle.cal_ast.specs.Items.{statements_of}
use Rattle.cal_ast.specs.Plan.{plans_from}
use Rattle.cal_ast.specs.Tree.{Component, statement_tree}
use Rattle.cal_walk.specs.Planning.{ArePlansOf, CanPlanAll, GoesOver, statements_from}
use Rattle.cal_walk.proofs.planning.+plan_of.Given as goal

-- planning went over the statements so far
abbrev pub invariant-plans_of-loop-statement : goal.invariant-plans_of-loop-statement
invariant-plans_of-loop-statement l =
    (names : List Text) (c : Component) → CanPlanAll names c l.statements l.initial.planner →
    GoesOver names c (statements_of (statements_from (map (statement_tree names) (take l.statement-index l.statements)))) l.initial.planner l.planner
    × ArePlansOf names c l.planner (plans_from l.initial.planner.item (statements_from (map (statement_tree names) (take l.statement-index l.statements)))) l.plans.items
