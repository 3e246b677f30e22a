use Rattle.std.proofs.Common.{map, take}
use Rattle.std.specs.Prelude.{flat_map}
use Rattle.cal_ast.specs.Tree.{statement_tree}
use Rattle.cal_place.specs.Around.{names_at}
use Rattle.cal_rules.specs.inside.Walks.{Passes}
use Rattle.cal_place.proofs.RowLemmas.{items_in}
use Rattle.cal_rules.proofs.component.+judge_statement.Given as goal

abbrev pub invariant-judge_statements-loop-statement : goal.invariant-judge_statements-loop-statement
invariant-judge_statements-loop-statement l =
    Passes l.place (flat_map (λ items. items) (take l.statement-index (map items_in (map (statement_tree (names_at l.place)) l.list)))) l.fn.walk l.walk
