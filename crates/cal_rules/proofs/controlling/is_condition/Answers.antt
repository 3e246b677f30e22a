use Rattle.std.proofs.Common.{Some, option_map, refl}
use Rattle.hw_names.specs.Name.{text_of}
use Rattle.cal_ast.specs.Controlling.{IsCondition}
use Rattle.cal_ast.specs.Ports.{width_in}
use Rattle.cal_ast.specs.Tree.{port_tree}
use Rattle.cal_place.specs.Around.{comp_at, design_at, names_at}
use Rattle.std.proofs.lemmas.Bool.Decides.{not_from_Decides}
use Rattle.cal_rules.proofs.TestLemmas.{told_no, widths_told}
use Rattle.cal_rules.proofs.controlling.is_condition.Goals as goal

pub port_width-requires : goal.port_width-requires
port_width-requires c = c.requires.port

pub returns-then-is_combinational : goal.returns-then-is_combinational
returns-then-is_combinational c =
    let p = c.args.place.now in
    let width = width_in (design_at p) (comp_at p) (port_tree (names_at p) c.args.port) in
    let bit = widths_told c.port_width.result (Some 1) width (Some 1) c.eq.result c.port_width.ensures refl c.eq.ensures in
    (λ yes'. record { group = c.is_combinational.ensures.0 c.if-is_combinational.true; bit = bit.0 yes' }, λ condition. bit.1 condition.bit)

pub returns-else-is_combinational : goal.returns-else-is_combinational
returns-else-is_combinational c =
    let p = c.args.place.now in
    told_no (IsCondition (design_at p) (comp_at p) (port_tree (names_at p) c.args.port) (option_map (text_of (names_at p)) c.args.by)) c.is_combinational.result c.if-is_combinational.false
    (λ condition. not_from_Decides c.is_combinational.result c.is_combinational.ensures c.if-is_combinational.false condition.group)
