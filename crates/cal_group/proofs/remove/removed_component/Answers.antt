use Rattle.std.proofs.Common.{◌≡◌, List, refl, ap, subst, ◌∙◌, rules}
use Rattle.std.specs.List.{AllZip}
use Rattle.std.proofs.lemmas.List.{take_all}
use Rattle.std.proofs.lemmas.List.Elements.{All-contains}
use Rattle.std.proofs.lemmas.Option.{slice_get_within}
use Rattle.cal_ast.proofs.ListLemmas.{Contains-at}
use Rattle.cal_ast.specs.Items.{control_statements}
use Rattle.cal_ast.specs.Numbers.{GroupHasNumbers}
use Rattle.cal_ast.specs.declared.lowered.ActRule.{ActRule}
use Rattle.cal_ast.specs.declared.tree.Assign.{Assign}
use Rattle.cal_ast.specs.declared.tree.CalCell.{CalCell}
use Rattle.cal_ast.specs.declared.tree.CalComp.{CalComp}
use Rattle.cal_ast.specs.declared.tree.Group.{Group}
use Rattle.cal_copy.specs.inside.Copies.{IsCellCopy, IsSetCopy}
use Rattle.cal_group.proofs.RemovalLemmas.{AreRuled, read_at, ruled_none, ruled_more, removed_tree, removed_numbers, bare_numbers}
use Rattle.cal_group.proofs.TableLemmas.{same_rule, place_within}
use Rattle.cal_group.specs.inside.Ruling.{AddsRuled}
use Rattle.cal_ast.specs.Holes.{rule_trees}
use Rattle.cal_group.proofs.remove.removed_component.Goals as goal

pub bounds-table-group : goal.bounds-table-group
bounds-table-group c =
    let groups = c.args.comp.now.groups.items in
    let i = c.loop-group.group-index in
    let group = c.group-item.result in
    let at = read_at c.deref-group-items.result.now groups i group c.deref-group-items.ensures.value c.loop-group-test.true c.group-item.is in
    let own = c.requires.ruled group (Contains-at groups i group at) in
    slice_get_within c.args.table.now group.name.0 own.0 own.2

pub offset_bounds-acts-table : goal.offset_bounds-acts-table
offset_bounds-acts-table c =
    let groups = c.args.comp.now.groups.items in
    let i = c.loop-group.group-index in
    let group = c.group-item.result in
    let at = read_at c.deref-group-items.result.now groups i group c.deref-group-items.ensures.value c.loop-group-test.true c.group-item.is in
    let own = c.requires.ruled group (Contains-at groups i group at) in
    let lt = place_within c.args.acts.now c.args.table.now group.name.0 own.0 own.1 own.2 own.3 in
    search (rules, lt)

pub bounds-acts-table : goal.bounds-acts-table
bounds-acts-table c =
    let groups = c.args.comp.now.groups.items in
    let i = c.loop-group.group-index in
    let group = c.group-item.result in
    let at = read_at c.deref-group-items.result.now groups i group c.deref-group-items.ensures.value c.loop-group-test.true c.group-item.is in
    let own = c.requires.ruled group (Contains-at groups i group at) in
    place_within c.args.acts.now c.args.table.now group.name.0 own.0 own.1 own.2 own.3

pub loop-group-init : goal.loop-group-init
loop-group-init c = λ names design has rules_of.
    let Z : List Assign → Type 0 = λ sets. AllZip IsSetCopy sets c.in_ok-sets.sets.items in
    ruled_none names design (rule_trees names c.args.acts.now) c.args.comp.now c.in_ok-sets.sets.items has (subst Z c.deref.ensures.value c.in_ok-sets.ensures)

pub loop-group-preserved : goal.loop-group-preserved
loop-group-preserved c = λ names design has rules_of.
    let comp = c.args.comp.now in
    let acts = c.args.acts.now in
    let groups = comp.groups.items in
    let items = c.deref-group-items.result.now in
    let i = c.loop-group.group-index in
    let group = c.group-item.result in
    let rule = c.index-acts-table.result in
    let before = c.loop-group.sets.items in
    let after = c.put_ruled.new.sets.items in
    let at = read_at items items i group refl c.loop-group-test.true c.group-item.is in
    let in_comp = Contains-at groups i group (read_at items groups i group c.deref-group-items.ensures.value c.loop-group-test.true c.group-item.is) in
    let own = rules_of group in_comp in
    let same : rule ≡ own.0 = same_rule acts c.args.table.now group own.0 rule own.1 c.index-acts-table.is in
    let adds = subst (λ (r : ActRule). AddsRuled r.when group.sets.items before after) same c.in_ok-put_ruled.ensures in
    ruled_more names design (rule_trees names acts) comp items i group own.0.when before after at (All-contains (GroupHasNumbers names) groups group has.groups in_comp) own.2 own.3 adds
    (c.loop-group.invariant names design has rules_of)

pub returns : goal.returns
returns c = λ names design has rules_of.
    let comp = c.args.comp.now in
    let trees = rule_trees names c.args.acts.now in
    let Cells : List CalCell → Type 0 = λ cells. AllZip IsCellCopy cells c.in_ok-copy_cells.field-0.items in
    let ins = c.in_ok-from_slice.ensures.items ∙ c.deref-2.ensures.value in
    let outs = c.in_ok-from_slice-2.ensures.items ∙ c.deref-3.ensures.value in
    let cells = subst Cells c.deref-4.ensures.value c.in_ok-copy_cells.ensures in
    let all = take_all c.loop-group.group-index c.deref-group-items.result.now c.loop-group-test.false ∙ c.deref-group-items.ensures.value in
    let sets = subst (λ (groups : List Group). AreRuled names design trees comp groups c.loop-group.sets.items) all (c.loop-group.invariant names design has rules_of) in
    let made : CalComp = record {
      name = comp.name;
      ins = c.in_ok-from_slice.field-0;
      outs = c.in_ok-from_slice-2.field-0;
      cells = c.in_ok-copy_cells.field-0;
      groups = c.new.result;
      sets = c.loop-group.sets;
      control = c.bare_control.result;
    } in (
      removed_tree names design trees comp made refl ins outs cells c.new.ensures.items sets (c.bare_control.ensures names),
      removed_numbers names design trees comp made has refl ins outs cells c.new.ensures.items sets
          (bare_numbers names c.bare_control.result (λ other. ap control_statements (c.bare_control.ensures other) ∙ c.requires.bare other)),
    )
