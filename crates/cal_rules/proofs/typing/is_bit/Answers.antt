use Rattle.std.proofs.Common.{◌≡◌, Some, refl}
use Rattle.net_core.specs.Guard.{source_tree}
use Rattle.cal_ast.specs.Tree.{port_tree}
use Rattle.cal_ast.specs.Typing.{LiteralFits, source_width}
use Rattle.cal_place.specs.Around.{comp_at, design_at, names_at}
use Rattle.cal_rules.proofs.TestLemmas.{both_parts, first_fails, widths_told}
use Rattle.cal_rules.proofs.typing.is_bit.Goals as goal

pub returns-then-literal_fits : goal.returns-then-literal_fits
returns-then-literal_fits c =
    let p = c.args.place.now in
    let s = source_tree (port_tree (names_at p)) c.args.src in
    let width = source_width (design_at p) (comp_at p) s in
    both_parts (LiteralFits s) (width ≡ Some 1) c.literal_fits.result c.eq.result (c.literal_fits.ensures (names_at p)) c.if-literal_fits.true
    (widths_told c.source_width.result (Some 1) width (Some 1) c.eq.result c.source_width.ensures refl c.eq.ensures)

pub returns-else-literal_fits : goal.returns-else-literal_fits
returns-else-literal_fits c =
    let p = c.args.place.now in
    let s = source_tree (port_tree (names_at p)) c.args.src in
    first_fails (LiteralFits s) (source_width (design_at p) (comp_at p) s ≡ Some 1) c.literal_fits.result (c.literal_fits.ensures (names_at p)) c.if-literal_fits.false
