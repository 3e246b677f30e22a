use Rattle.std.proofs.Common.{ap, sym, ◌∙◌}
use Rattle.hw_prims.specs.Table.{is_primitive}
use Rattle.cal_ast.specs.Tree.{cell_tree}
use Rattle.cal_place.specs.Around.{design_at, names_at}
use Rattle.cal_rules.proofs.TestLemmas.{vec_empty}
use Rattle.cal_rules.proofs.TypingLemmas.{component_parameters, primitive_parameters}
use Rattle.cal_rules.proofs.typing.has_parameters.Goals as goal

pub text-requires : goal.text-requires
text-requires c = c.requires.numbers.1

pub returns-then-is_primitive : goal.returns-then-is_primitive
returns-then-is_primitive c =
    let p = c.args.place.now in
    let cell = cell_tree (names_at p) c.args.cell.now in
    let is = ap is_primitive (sym c.text.ensures) ∙ sym c.is_primitive.ensures ∙ c.if-is_primitive.true in
    primitive_parameters (design_at p) cell c.made.result c.is_some.result is (c.made.ensures cell c.requires.at) c.is_some.ensures

pub returns-else-is_primitive : goal.returns-else-is_primitive
returns-else-is_primitive c =
    let p = c.args.place.now in
    let cell = cell_tree (names_at p) c.args.cell.now in
    let is = ap is_primitive (sym c.text.ensures) ∙ sym c.is_primitive.ensures ∙ c.if-is_primitive.false in
    component_parameters cell c.is_empty.result is (vec_empty c.args.cell.now.params c.is_empty.result c.is_empty.ensures)
