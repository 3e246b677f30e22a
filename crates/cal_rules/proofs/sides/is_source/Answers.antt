use Rattle.std.proofs.Common.{◌≡◌, ◌↔◌, Some, subst}
use Rattle.std.specs.Bool.{IsTrue}
use Rattle.cal_ast.specs.Ports.{Side, side_in}
use Rattle.cal_ast.specs.Tree.{port_tree}
use Rattle.cal_place.specs.Around.{comp_at, design_at, names_at}
use Rattle.cal_rules.proofs.sides.is_source.Goals as goal

pub returns : goal.returns
returns c =
    let p = c.args.place.now in
    let S : Side → Type 0 = λ s. IsTrue c.is_on_side.result ↔ (side_in (design_at p) (comp_at p) (port_tree (names_at p) c.args.port) ≡ Some s) in
    subst S (c.read_side.ensures (names_at p)) c.is_on_side.ensures
