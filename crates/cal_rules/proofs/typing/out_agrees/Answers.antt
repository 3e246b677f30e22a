use Rattle.hw_names.specs.Name.{text_of}
use Rattle.cal_ast.specs.Ports.{width_in}
use Rattle.cal_ast.specs.Tree.{out_tree, port_of}
use Rattle.cal_place.specs.Around.{comp_at, design_at, names_at}
use Rattle.cal_rules.proofs.TestLemmas.{widths_told}
use Rattle.cal_rules.proofs.typing.out_agrees.Goals as goal

pub port_width-requires : goal.port_width-requires
port_width-requires c = (c.requires.cell, c.requires.bind.0)

pub port_width-requires-2 : goal.port_width-requires-2
port_width-requires-2 c = c.requires.bind.1

pub returns : goal.returns
returns c =
    let p = c.args.place.now in
    let b = out_tree (names_at p) c.args.bind in
    widths_told c.port_width.result c.port_width-2.result (width_in (design_at p) (comp_at p) (port_of (text_of (names_at p) c.args.cell) b.pin)) (width_in (design_at p) (comp_at p) b.dst) c.eq.result
    c.port_width.ensures c.port_width-2.ensures c.eq.ensures
