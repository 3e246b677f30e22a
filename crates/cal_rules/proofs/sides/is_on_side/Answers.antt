use Rattle.std.proofs.Common.{◌≡◌, Some}
use Rattle.cal_ast.specs.Ports.{side_in}
use Rattle.cal_ast.specs.Tree.{port_tree}
use Rattle.cal_place.specs.Around.{comp_at, design_at, names_at}
use Rattle.cal_place.specs.Signatures.{side_of}
use Rattle.cal_rules.proofs.DrivenLemmas.{sides_told}
use Rattle.cal_place.proofs.GuardLemmas.{both_ways}
use Rattle.cal_place.proofs.ListLemmas.{told_false}
use Rattle.cal_place.proofs.SideLemmas.{has_side, no_side}
use Rattle.cal_rules.proofs.sides.is_on_side.Goals as goal

pub returns-in-Some : goal.returns-in-Some
returns-in-Some c =
    let p = c.args.place.now in
    let port = port_tree (names_at p) c.args.port in
    both_ways (sides_told c.in-Some.pin.side c.args.side c.eq.result c.eq.ensures)
    (has_side (design_at p) (comp_at p) port c.port.result c.port.ensures c.in-Some.pin c.args.side c.in-Some.is)

pub returns-in-None : goal.returns-in-None
returns-in-None c =
    let p = c.args.place.now in
    let port = port_tree (names_at p) c.args.port in
    told_false (side_in (design_at p) (comp_at p) port ≡ Some (side_of c.args.side)) (no_side (design_at p) (comp_at p) port c.port.result c.port.ensures (side_of c.args.side) c.in-None.is)
