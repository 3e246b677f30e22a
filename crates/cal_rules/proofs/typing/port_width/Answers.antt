use Rattle.std.proofs.Common.{sym, ◌∙◌}
use Rattle.cal_ast.specs.Tree.{port_tree}
use Rattle.cal_place.specs.Around.{comp_at, design_at, names_at}
use Rattle.cal_place.proofs.SideLemmas.{has_width, no_width}
use Rattle.cal_rules.proofs.typing.port_width.Goals as goal

pub returns-in_err-port : goal.returns-in_err-port
returns-in_err-port c =
    let p = c.args.place.now in
    c.from_residual.ensures ∙ sym (no_width (design_at p) (comp_at p) (port_tree (names_at p) c.args.port) c.port.result c.port.ensures c.in_err-port.was)

pub returns : goal.returns
returns c =
    let p = c.args.place.now in
    sym (has_width (design_at p) (comp_at p) (port_tree (names_at p) c.args.port) c.port.result c.port.ensures c.in_ok-port.field-0 c.in_ok-port.was)
