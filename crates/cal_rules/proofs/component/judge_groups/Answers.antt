use Rattle.std.proofs.Common.{◌≡◌, ℕ, ◌<◌, ◌≤◌, List, length, map, take, get_or, slice_get, Some, refl, sym, ap, ◌∙◌, arith}
use Rattle.std.proofs.lemmas.List.{length-map}
use Rattle.cal_ast.proofs.ItemLemmas.{slice_get-each}
use Rattle.cal_ast.specs.Items.{each, group_items}
use Rattle.cal_ast.specs.Numbers.{GroupHasNumbers}
use Rattle.cal_ast.specs.Tree.{GroupDef, group_tree}
use Rattle.cal_ast.specs.declared.tree.Group.{Group}
use Rattle.cal_place.specs.Around.{Around, comp_at, names_at}
use Rattle.cal_rules.proofs.ComponentLemmas.{each_length}
use Rattle.cal_place.proofs.ListLemmas.{All-item, at_mapped}
use Rattle.cal_rules.proofs.WalkLemmas.{ended, flat, last_section, next_section, passes_none, passes_sections, walk_passed}
use Rattle.cal_rules.proofs.component.judge_groups.Goals as goal

-- the group at hand is the component's
group_at : (p : Around) (groups : List Group) (n : ℕ) (group : Group) → map (group_tree (names_at p)) groups ≡ (comp_at p).groups → n < length groups → group ≡ get_or groups n group → slice_get (comp_at p).groups n ≡ Some (group_tree (names_at p) group)
group_at p groups n group are within is = ap (λ (l : List GroupDef). slice_get l n) (sym are) ∙ at_mapped (group_tree (names_at p)) groups groups n group refl within is

pub judge_group-requires-clause-numbers : goal.judge_group-requires-clause-numbers
judge_group-requires-clause-numbers c =
    let groups = c.args.groups.now in
    let within : c.loop-number.number < length groups = omega arith in
    All-item (GroupHasNumbers (names_at c.args.place.now)) groups groups c.loop-number.number c.index-groups-number.result refl within c.index-groups-number.is c.requires.numbers

pub judge_group-requires-clause-at : goal.judge_group-requires-clause-at
judge_group-requires-clause-at c =
    let within : c.loop-number.number < length c.args.groups.now = omega arith in
    group_at c.args.place.now c.args.groups.now c.loop-number.number c.index-groups-number.result c.requires.are within c.index-groups-number.is

pub loop-number-init : goal.loop-number-init
loop-number-init c = passes_none c.args.place.now c.args.walk.now

pub returns-in_err-judge_group : goal.returns-in_err-judge_group
returns-in_err-judge_group c =
    let p = c.args.place.now in
    let n = c.loop-number.number in
    let own = (comp_at p).groups in
    let tree = group_tree (names_at p) c.index-groups-number.result in
    let within : n < length c.args.groups.now = omega arith in
    let at = group_at p c.args.groups.now n c.index-groups-number.result c.requires.are within c.index-groups-number.is in
    let sections = each group_items own in
    let section = group_items (take n own) tree in
    let end = c.in_err-judge_group.field-0.0 in
    walk_passed p (flat sections) c.args.walk.now c.judge_group.new.walk c.from_residual.result end c.from_residual.ensures.1
    (last_section p sections n section (slice_get-each group_items own n tree at) c.args.walk.now c.loop-number.walk c.loop-number.invariant end
    (ended p (Unit {0}) section c.loop-number.walk c.judge_group.new.walk end c.in_err-judge_group.ensures))

pub loop-number-preserved : goal.loop-number-preserved
loop-number-preserved c =
    let p = c.args.place.now in
    let n = c.loop-number.number in
    let own = (comp_at p).groups in
    let tree = group_tree (names_at p) c.index-groups-number.result in
    let within : n < length c.args.groups.now = omega arith in
    let at = group_at p c.args.groups.now n c.index-groups-number.result c.requires.are within c.index-groups-number.is in
    let sections = each group_items own in
    next_section p sections n (group_items (take n own) tree) (slice_get-each group_items own n tree at) c.args.walk.now c.loop-number.walk c.loop-number.invariant c.judge_group.new.walk c.in_ok-judge_group.ensures

pub returns : goal.returns
returns c =
    let p = c.args.place.now in
    let own = (comp_at p).groups in
    let end : length (each group_items own) ≤ c.loop-number.number =
    omega (arith, each_length group_items own, ap length c.requires.are, length-map c.args.groups.now (group_tree (names_at p))) in
    passes_sections p (each group_items own) c.loop-number.number c.args.walk.now c.loop-number.walk end c.loop-number.invariant
