use Rattle.std.proofs.Common.{length, ap, ◌∙◌, arith}
use Rattle.cal_walk.proofs.ControlsLemmas.{comp_numbers, groups_within, cells_within, statements_known, tables_show, control_push, none_controlled, comp_at, all_controls}
use Rattle.cal_walk.proofs.OverLemmas.{at_index}
use Rattle.cal_walk.proofs.planning.controls.Goals as goal

pub loop-comp-init : goal.loop-comp-init
loop-comp-init c = record {
  within = omega arith;
  groups = c.in_ok-numbers.ensures.groups ∙ c.len.ensures.len;
  made = c.in_ok-numbers.ensures.made ∙ c.len.ensures.len;
  controls = none_controlled c.args.design.now c.new-all.result.items c.new-all.ensures.items;
}

pub number_groups-requires : goal.number_groups-requires
number_groups-requires c =
    let d = c.args.design.now in
    let items = c.deref-comp-items.result.now in
    let i = c.loop-comp.comp-index in
    let comp = c.comp-item.result in
    let at = comp_at d items i comp c.deref-comp-items.ensures.value (at_index items i comp c.loop-comp-test.true c.comp-item.is) in
    groups_within d c.requires.numbers i comp at c.deref.result.now (length c.loop-comp.numbers.groups.items) c.deref.ensures.value c.loop-comp.invariant.groups

pub name_cells-requires : goal.name_cells-requires
name_cells-requires c =
    let d = c.args.design.now in
    let items = c.deref-comp-items.result.now in
    let i = c.loop-comp.comp-index in
    let comp = c.comp-item.result in
    let at = comp_at d items i comp c.deref-comp-items.ensures.value (at_index items i comp c.loop-comp-test.true c.comp-item.is) in
    let mid = c.number_groups.new.self in
    cells_within d c.requires.numbers i comp at c.deref-in-loop-comp.result.now (length mid.made.items) c.deref-in-loop-comp.ensures.value (ap length c.number_groups.ensures.made ∙ c.loop-comp.invariant.made)

pub control_of-requires-clause-numbers : goal.control_of-requires-clause-numbers
control_of-requires-clause-numbers c =
    let d = c.args.design.now in
    let items = c.deref-comp-items.result.now in
    let i = c.loop-comp.comp-index in
    let comp = c.comp-item.result in
    let at = comp_at d items i comp c.deref-comp-items.ensures.value (at_index items i comp c.loop-comp-test.true c.comp-item.is) in
    comp_numbers d c.requires.numbers i comp at

pub control_of-requires-clause-shows : goal.control_of-requires-clause-shows
control_of-requires-clause-shows c =
    let d = c.args.design.now in
    let items = c.deref-comp-items.result.now in
    let i = c.loop-comp.comp-index in
    let comp = c.comp-item.result in
    let at = comp_at d items i comp c.deref-comp-items.ensures.value (at_index items i comp c.loop-comp-test.true c.comp-item.is) in
    tables_show d c.requires.numbers i comp at c.requires.rules c.len.ensures.distinct c.deref.result.now c.deref-in-loop-comp.result.now c.number_groups.new.self c.name_cells.new.self c.deref.ensures.value c.deref-in-loop-comp.ensures.value
    c.name_cells.ensures.groups c.number_groups.ensures.groups c.name_cells.ensures.made

pub control_of-requires-clause-known : goal.control_of-requires-clause-known
control_of-requires-clause-known c =
    let d = c.args.design.now in
    let items = c.deref-comp-items.result.now in
    let i = c.loop-comp.comp-index in
    let comp = c.comp-item.result in
    let at = comp_at d items i comp c.deref-comp-items.ensures.value (at_index items i comp c.loop-comp-test.true c.comp-item.is) in
    statements_known d c.requires.numbers i comp at c.requires.rules

pub loop-comp-preserved : goal.loop-comp-preserved
loop-comp-preserved c =
    let d = c.args.design.now in
    let items = c.deref-comp-items.result.now in
    let i = c.loop-comp.comp-index in
    let comp = c.comp-item.result in
    let at = comp_at d items i comp c.deref-comp-items.ensures.value (at_index items i comp c.loop-comp-test.true c.comp-item.is) in
    record {
      within = omega (arith, c.loop-comp-test.true);
      groups = ap length c.name_cells.ensures.groups ∙ c.number_groups.ensures.sized ∙ c.loop-comp.invariant.groups;
      made = c.name_cells.ensures.sized ∙ ap length c.number_groups.ensures.made ∙ c.loop-comp.invariant.made;
      controls = control_push d i c.loop-comp.all.items c.push.new.self.items comp c.in_ok-control_of.field-0 c.in_ok-push.ensures.items c.loop-comp.invariant.controls at c.in_ok-control_of.ensures;
    }

pub returns : goal.returns
returns c =
    let d = c.args.design.now in
    let i = c.loop-comp.comp-index in
    let all = c.loop-comp.all.items in
    all_controls d i all (omega (arith, c.loop-comp-test.false, ap length c.deref-comp-items.ensures.value, c.loop-comp.invariant.within)) c.loop-comp.invariant.controls
