use Rattle.std.proofs.Common.{Bor, option_map, ap, sym, ◌∙◌}
use Rattle.hw_names.specs.Name.{text_of}
use Rattle.cal_ast.specs.Tree.{group_tree}
use Rattle.cal_ast.specs.declared.tree.Group.{Group}
use Rattle.cal_place.specs.Around.{comp_at, names_at}
use Rattle.cal_rules.specs.inside.Groups.{IsGroup}
use Rattle.cal_rules.proofs.GroupLemmas.{group_told, no_group}
use Rattle.cal_place.proofs.GuardLemmas.{both_ways}
use Rattle.cal_place.proofs.ListLemmas.{told_false}
use Rattle.cal_rules.proofs.TestLemmas.{same_truth}
use Rattle.cal_rules.proofs.controlling.is_group.Goals as goal

pub returns-in-Some : goal.returns-in-Some
returns-in-Some c =
    let p = c.args.place.now in
    let names = names_at p in
    let found = sym c.group.ensures ∙ ap (option_map (λ (g : Bor Group). group_tree names g.now)) c.in-Some.is in
    both_ways (same_truth c.in-Some.group.now.comb c.args.comb) (group_told (comp_at p) (text_of names c.args.name) c.args.comb (group_tree names c.in-Some.group.now) found)

pub returns-in-None : goal.returns-in-None
returns-in-None c =
    let p = c.args.place.now in
    let names = names_at p in
    let none = sym c.group.ensures ∙ ap (option_map (λ (g : Bor Group). group_tree names g.now)) c.in-None.is in
    told_false (IsGroup (comp_at p) (text_of names c.args.name) c.args.comb) (no_group (comp_at p) (text_of names c.args.name) c.args.comb none)
