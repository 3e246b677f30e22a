use Rattle.std.proofs.lemmas.Bool.Decides.{not_from_Decides}
use Rattle.std.proofs.Common.{take}
use Rattle.cal_ast.specs.Items.{TheCell}
use Rattle.cal_ast.specs.Tree.{cell_tree}
use Rattle.cal_place.specs.Around.{KeepsAt, comp_at, names_at}
use Rattle.cal_rules.proofs.LeastLemmas.{all_kept, is_C1, is_C2, is_C3}
use Rattle.cal_rules.proofs.item.at_cell.Goals as goal

pub returns-then-not-is_new_cell : goal.returns-then-not-is_new_cell
returns-then-not-is_new_cell c =
    is_C1 (KeepsAt c.args.place.now (TheCell (take c.args.number (comp_at c.args.place.now).cells) (cell_tree (names_at c.args.place.now) c.args.cell.now))) (not_from_Decides c.is_new_cell.result c.is_new_cell.ensures c.if-not-is_new_cell.true)

pub returns-then-not-is_known_cell : goal.returns-then-not-is_known_cell
returns-then-not-is_known_cell c =
    is_C2 (KeepsAt c.args.place.now (TheCell (take c.args.number (comp_at c.args.place.now).cells) (cell_tree (names_at c.args.place.now) c.args.cell.now))) (c.is_new_cell.ensures.0 c.if-not-is_new_cell.false) (not_from_Decides c.is_known_cell.result c.is_known_cell.ensures c.if-not-is_known_cell.true)

pub returns-then-not-has_parameters : goal.returns-then-not-has_parameters
returns-then-not-has_parameters c =
    is_C3 (KeepsAt c.args.place.now (TheCell (take c.args.number (comp_at c.args.place.now).cells) (cell_tree (names_at c.args.place.now) c.args.cell.now))) (c.is_new_cell.ensures.0 c.if-not-is_new_cell.false) (c.is_known_cell.ensures.0 c.if-not-is_known_cell.false) (not_from_Decides c.has_parameters.result c.has_parameters.ensures c.if-not-has_parameters.true)

pub returns : goal.returns
returns c =
    all_kept (KeepsAt c.args.place.now (TheCell (take c.args.number (comp_at c.args.place.now).cells) (cell_tree (names_at c.args.place.now) c.args.cell.now))) (c.is_new_cell.ensures.0 c.if-not-is_new_cell.false) (c.is_known_cell.ensures.0 c.if-not-is_known_cell.false) (c.has_parameters.ensures.0 c.if-not-has_parameters.false) tt tt tt tt tt tt tt tt
