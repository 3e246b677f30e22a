use Rattle.std.proofs.Common.{take, Contains}
use Rattle.cal_ast.specs.Naming.{IsUnreserved, cell_names}
use Rattle.cal_ast.specs.Tree.{CellDef, cell_tree}
use Rattle.cal_place.specs.Around.{comp_at, names_at}
use Rattle.cal_place.proofs.GuardLemmas.{both_ways}
use Rattle.cal_rules.proofs.NewNameLemmas.{first_name}
use Rattle.cal_rules.proofs.TestLemmas.{both_parts, first_fails}
use Rattle.cal_rules.proofs.naming.is_new_cell.Goals as goal

pub is_first_cell-requires : goal.is_first_cell-requires
is_first_cell-requires c = c.requires.numbers.0

pub is_unreserved-requires : goal.is_unreserved-requires
is_unreserved-requires c = c.requires.numbers.0

pub returns-then-is_first_cell : goal.returns-then-is_first_cell
returns-then-is_first_cell c =
    let p = c.args.place.now in
    let cell = cell_tree (names_at p) c.args.cell.now in
    let first = first_name (λ (x : CellDef). x.name) (comp_at p).cells c.args.number cell c.requires.at in
    both_parts (¬ Contains (cell_names (take c.args.number (comp_at p).cells)) cell.name) (IsUnreserved (comp_at p) cell.name) c.is_first_cell.result c.is_unreserved.result
    (both_ways c.is_first_cell.ensures first) c.if-is_first_cell.true c.is_unreserved.ensures

pub returns-else-is_first_cell : goal.returns-else-is_first_cell
returns-else-is_first_cell c =
    let p = c.args.place.now in
    let cell = cell_tree (names_at p) c.args.cell.now in
    let first = first_name (λ (x : CellDef). x.name) (comp_at p).cells c.args.number cell c.requires.at in
    first_fails (¬ Contains (cell_names (take c.args.number (comp_at p).cells)) cell.name) (IsUnreserved (comp_at p) cell.name) c.is_first_cell.result
    (both_ways c.is_first_cell.ensures first) c.if-is_first_cell.false
