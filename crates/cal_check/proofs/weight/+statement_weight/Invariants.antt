use Rattle.std.proofs.Common.{◌≡◌, List, map, sum_by, take}
use Rattle.hw_names.specs.Name.{Text}
use Rattle.net_core.specs.Weight.{saturated}
use Rattle.cal_ast.specs.Items.{statements_in}
use Rattle.cal_ast.specs.Tree.{Statement, statement_tree}
use Rattle.cal_check.specs.Weight.{statement_weight}
use Rattle.cal_check.proofs.weight.+statement_weight.Given as goal

abbrev pub invariant-statements_weight-loop-statement : goal.invariant-statements_weight-loop-statement
invariant-statements_weight-loop-statement l =
    (names : List Text) → l.weight ≡ saturated (sum_by (λ (s : Statement). sum_by statement_weight (statements_in s)) (take l.statement-index (map (statement_tree names) l.list)))
