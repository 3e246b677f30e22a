use Rattle.std.proofs.Common.{◌≡◌}
use Rattle.hw_names.specs.Name.{text_of}
use Rattle.cal_ast.specs.Ports.{width_in}
use Rattle.cal_ast.specs.Tree.{in_tree, port_of}
use Rattle.cal_ast.specs.Typing.{LiteralFits, source_width}
use Rattle.cal_place.specs.Around.{comp_at, design_at, names_at}
use Rattle.cal_rules.proofs.TestLemmas.{both_parts, first_fails, widths_told}
use Rattle.cal_rules.proofs.typing.in_agrees.Goals as goal

pub port_width-requires : goal.port_width-requires
port_width-requires c = (c.requires.cell, c.requires.bind.0)

pub source_width-requires : goal.source_width-requires
source_width-requires c = c.requires.bind.1

pub returns-then-literal_fits : goal.returns-then-literal_fits
returns-then-literal_fits c =
    let p = c.args.place.now in
    let b = in_tree (names_at p) c.args.bind in
    let port = width_in (design_at p) (comp_at p) (port_of (text_of (names_at p) c.args.cell) b.pin) in
    let given = source_width (design_at p) (comp_at p) b.src in
    both_parts (LiteralFits b.src) (port ≡ given) c.literal_fits.result c.eq.result (c.literal_fits.ensures (names_at p)) c.if-literal_fits.true
    (widths_told c.port_width.result c.source_width.result port given c.eq.result c.port_width.ensures c.source_width.ensures c.eq.ensures)

pub returns-else-literal_fits : goal.returns-else-literal_fits
returns-else-literal_fits c =
    let p = c.args.place.now in
    let b = in_tree (names_at p) c.args.bind in
    first_fails (LiteralFits b.src) (width_in (design_at p) (comp_at p) (port_of (text_of (names_at p) c.args.cell) b.pin) ≡ source_width (design_at p) (comp_at p) b.src)
    c.literal_fits.result (c.literal_fits.ensures (names_at p)) c.if-literal_fits.false
