use Rattle.std.proofs.Common.{take, Contains}
use Rattle.cal_ast.specs.Naming.{IsUnreserved, group_names}
use Rattle.cal_ast.specs.Tree.{GroupDef, group_tree}
use Rattle.cal_place.specs.Around.{comp_at, names_at}
use Rattle.cal_place.proofs.GuardLemmas.{both_ways}
use Rattle.cal_rules.proofs.NewNameLemmas.{first_name}
use Rattle.cal_rules.proofs.TestLemmas.{both_parts, first_fails}
use Rattle.cal_rules.proofs.naming.is_new_group.Goals as goal

pub is_first_group-requires : goal.is_first_group-requires
is_first_group-requires c = c.requires.numbers.name

pub is_unreserved-requires : goal.is_unreserved-requires
is_unreserved-requires c = c.requires.numbers.name

pub returns-then-is_first_group : goal.returns-then-is_first_group
returns-then-is_first_group c =
    let p = c.args.place.now in
    let group = group_tree (names_at p) c.args.group.now in
    let first = first_name (λ (x : GroupDef). x.name) (comp_at p).groups c.args.number group c.requires.at in
    both_parts (¬ Contains (group_names (take c.args.number (comp_at p).groups)) group.name) (IsUnreserved (comp_at p) group.name) c.is_first_group.result c.is_unreserved.result
    (both_ways c.is_first_group.ensures first) c.if-is_first_group.true c.is_unreserved.ensures

pub returns-else-is_first_group : goal.returns-else-is_first_group
returns-else-is_first_group c =
    let p = c.args.place.now in
    let group = group_tree (names_at p) c.args.group.now in
    let first = first_name (λ (x : GroupDef). x.name) (comp_at p).groups c.args.number group c.requires.at in
    first_fails (¬ Contains (group_names (take c.args.number (comp_at p).groups)) group.name) (IsUnreserved (comp_at p) group.name) c.is_first_group.result
    (both_ways c.is_first_group.ensures first) c.if-is_first_group.false
