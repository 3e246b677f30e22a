use Rattle.std.proofs.Common.{ap, ◌∙◌, is_some, sym}
use Rattle.cal_ast.specs.Ports.{port_in}
use Rattle.cal_ast.specs.Tree.{port_tree}
use Rattle.cal_place.specs.Around.{comp_at, design_at, names_at}
use Rattle.cal_place.proofs.PinLemmas.{is_some-found}
use Rattle.cal_rules.proofs.naming.is_known.Goals as goal

pub returns : goal.returns
returns c =
    let p = c.args.place.now in
    let o = port_in (design_at p) (comp_at p) (port_tree (names_at p) c.args.port) in
    let is = c.is_some.ensures ∙ ap is_some c.port.ensures ∙ is_some-found o in
    (λ yes'. sym is ∙ yes', λ yes'. is ∙ yes')
