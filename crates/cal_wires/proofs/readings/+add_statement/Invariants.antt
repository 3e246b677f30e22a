use Rattle.std.proofs.Common.{map, take}
use Rattle.cal_ast.specs.Items.{statements_of}
use Rattle.cal_ast.specs.Tree.{statement_tree}
use Rattle.cal_place.specs.Around.{comp_at, design_at, names_at}
use Rattle.cal_wires.specs.Readings.{AddsGroups, groups_invoked}
use Rattle.cal_place.specs.Statements.{statements_from}
use Rattle.cal_wires.proofs.readings.+add_statement.Given as goal

-- the graph has the groups of the statements so far
abbrev pub invariant-add_statements-loop-statement : goal.invariant-add_statements-loop-statement
invariant-add_statements-loop-statement l =
    AddsGroups (design_at l.place) (comp_at l.place) (groups_invoked (design_at l.place) (comp_at l.place) (statements_of (statements_from (map (statement_tree (names_at l.place)) (take l.statement-index l.list))))) l.fn.graph l.graph
