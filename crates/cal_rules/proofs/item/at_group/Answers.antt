use Rattle.std.proofs.lemmas.Bool.Decides.{not_from_Decides}
use Rattle.std.proofs.Common.{take}
use Rattle.cal_ast.specs.Items.{TheGroup}
use Rattle.cal_ast.specs.Tree.{group_tree}
use Rattle.cal_place.specs.Around.{KeepsAt, comp_at, names_at}
use Rattle.cal_rules.proofs.LeastLemmas.{all_kept, is_C1, is_C7}
use Rattle.cal_rules.proofs.item.at_group.Goals as goal

pub returns-then-not-is_new_group : goal.returns-then-not-is_new_group
returns-then-not-is_new_group c =
    is_C1 (KeepsAt c.args.place.now (TheGroup (take c.args.number (comp_at c.args.place.now).groups) (group_tree (names_at c.args.place.now) c.args.group.now))) (not_from_Decides c.is_new_group.result c.is_new_group.ensures c.if-not-is_new_group.true)

pub returns-then-not-has_done : goal.returns-then-not-has_done
returns-then-not-has_done c =
    is_C7 (KeepsAt c.args.place.now (TheGroup (take c.args.number (comp_at c.args.place.now).groups) (group_tree (names_at c.args.place.now) c.args.group.now))) (c.is_new_group.ensures.0 c.if-not-is_new_group.false) tt tt tt tt tt (not_from_Decides c.has_done.result (c.has_done.ensures (names_at c.args.place.now)) c.if-not-has_done.true)

pub returns : goal.returns
returns c =
    all_kept (KeepsAt c.args.place.now (TheGroup (take c.args.number (comp_at c.args.place.now).groups) (group_tree (names_at c.args.place.now) c.args.group.now))) (c.is_new_group.ensures.0 c.if-not-is_new_group.false) tt tt tt tt tt ((c.has_done.ensures (names_at c.args.place.now)).0 c.if-not-has_done.false) tt tt tt tt
