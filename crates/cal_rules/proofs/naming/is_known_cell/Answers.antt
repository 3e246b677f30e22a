use Rattle.std.proofs.Common.{Some, ap, ◌∙◌}
use Rattle.cal_ast.specs.Tree.{cell_tree}
use Rattle.cal_place.specs.Around.{comp_at, design_at, names_at}
use Rattle.cal_rules.proofs.NewNameLemmas.{known_name, known_part, known_primitive, made_cell}
use Rattle.cal_rules.proofs.naming.is_known_cell.Goals as goal

pub text-requires : goal.text-requires
text-requires c = c.requires.numbers.1

pub comes_back-requires-clause-new : goal.comes_back-requires-clause-new
comes_back-requires-clause-new c = c.requires.first

pub comes_back-requires-clause-cell : goal.comes_back-requires-clause-cell
comes_back-requires-clause-cell c =
    let p = c.args.place.now in
    let cell = cell_tree (names_at p) c.args.cell.now in
    made_cell (design_at p) (comp_at p) c.args.number cell c.made.result c.in-Some-Component.part c.requires.at (c.in-Some-Component.is ∙ ap Some c.in-Some-Component.field-0-is) (c.made.ensures cell c.requires.at)

pub returns-in-Some-Primitive : goal.returns-in-Some-Primitive
returns-in-Some-Primitive c =
    let p = c.args.place.now in
    let cell = cell_tree (names_at p) c.args.cell.now in
    known_primitive (design_at p) (comp_at p) cell c.made.result _ (c.in-Some-Primitive.is ∙ ap Some c.in-Some-Primitive.field-0-is) (c.made.ensures cell c.requires.at)

pub returns-in-Some-Component : goal.returns-in-Some-Component
returns-in-Some-Component c =
    let p = c.args.place.now in
    let cell = cell_tree (names_at p) c.args.cell.now in
    known_part (design_at p) (comp_at p) cell c.made.result c.in-Some-Component.part c.comes_back.result (c.in-Some-Component.is ∙ ap Some c.in-Some-Component.field-0-is) (c.made.ensures cell c.requires.at) c.comes_back.ensures

pub returns-in-None : goal.returns-in-None
returns-in-None c =
    let p = c.args.place.now in
    let cell = cell_tree (names_at p) c.args.cell.now in
    known_name (design_at p) (comp_at p) cell c.made.result c.text.result.now c.is_primitive.result c.in-None.is (c.made.ensures cell c.requires.at) c.text.ensures c.is_primitive.ensures
