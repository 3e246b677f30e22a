use Rattle.std.proofs.Common.{refl, ◌∙◌}
use Rattle.cal_ast.specs.Tree.{component_tree}
use Rattle.cal_walk.specs.declared.planning.Planner.{Planner}
use Rattle.cal_walk.proofs.SectionLemmas.{section_can, section_control}
use Rattle.cal_walk.proofs.planning.control_of.Goals as goal

pub section_of-requires : goal.section_of-requires
section_of-requires c =
    let names = c.args.names.now in
    let comp = c.args.comp.now in
    let old : Planner = record { numbers = c.args.numbers; groups = c.len.result; item = c.in_ok-items_before_control.field-0; invokes = c.new.result; conditions = c.new-2.result } in
    (names, component_tree names comp, section_can names comp old c.new.ensures.items c.requires.numbers c.requires.shows c.requires.known (c.len.ensures ∙ comp.groups.ok.0) c.new-2.ensures.items)

pub returns : goal.returns
returns c =
    let names = c.args.names.now in
    let comp = c.args.comp.now in
    let old : Planner = record { numbers = c.args.numbers; groups = c.len.result; item = c.in_ok-items_before_control.field-0; invokes = c.new.result; conditions = c.new-2.result } in
    let can = section_can names comp old c.new.ensures.items c.requires.numbers c.requires.shows c.requires.known (c.len.ensures ∙ comp.groups.ok.0) c.new-2.ensures.items in
    (refl, section_control names comp old c.new.ensures.items c.section_of.new.planner c.in_ok-plan.plan (c.in_ok-items_before_control.ensures names) (c.in_ok-plan.ensures names (component_tree names comp) can) c.args.comp c.is_bare.result c.is_bare.ensures)
