use Rattle.std.proofs.Common.{sym, subst}
use Rattle.std.specs.Prelude.{OnOk}
use Rattle.cal_ast.specs.Items.{control_statements}
use Rattle.cal_ast.specs.Numbers.{ControlHasNumbers}
use Rattle.cal_ast.specs.Tree.{control_tree}
use Rattle.cal_ast.specs.declared.tree.ControlPart.{ControlPart}
use Rattle.cal_place.specs.Around.{comp_at, design_at, names_at}
use Rattle.cal_wires.specs.Readings.{AddsGroups, groups_invoked}
use Rattle.cal_wires.proofs.GainLemmas.{groups_none}
use Rattle.cal_wires.proofs.readings.add_control.Goals as goal

pub returns-in-Absent : goal.returns-in-Absent
returns-in-Absent c =
    let p = c.args.place.now in
    let g = c.args.graph.now in
    subst (λ (part : ControlPart). AddsGroups (design_at p) (comp_at p) (groups_invoked (design_at p) (comp_at p) (control_statements (control_tree (names_at p) part))) g g) (sym c.in-Absent.is) (groups_none (design_at p) (comp_at p) g)

pub returns-in-Empty : goal.returns-in-Empty
returns-in-Empty c =
    let p = c.args.place.now in
    let g = c.args.graph.now in
    subst (λ (part : ControlPart). AddsGroups (design_at p) (comp_at p) (groups_invoked (design_at p) (comp_at p) (control_statements (control_tree (names_at p) part))) g g) (sym c.in-Empty.is) (groups_none (design_at p) (comp_at p) g)

pub add_statement-requires : goal.add_statement-requires
add_statement-requires c = record { names = c.requires.names; statement = subst (λ (part : ControlPart). ControlHasNumbers (names_at c.args.place.now) part) c.in-Body.is c.requires.control }

pub returns-in-Body : goal.returns-in-Body
returns-in-Body c =
    let p = c.args.place.now in
    subst (λ (part : ControlPart). OnOk c.add_statement.result (AddsGroups (design_at p) (comp_at p) (groups_invoked (design_at p) (comp_at p) (control_statements (control_tree (names_at p) part))) c.args.graph.now c.add_statement.new.graph)) (sym c.in-Body.is) c.add_statement.ensures
