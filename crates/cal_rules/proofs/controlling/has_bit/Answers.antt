use Rattle.std.proofs.Common.{◌≡◌, Some}
use Rattle.hw_names.specs.Name.{text_of}
use Rattle.cal_ast.specs.Ports.{side_in, width_in}
use Rattle.cal_ast.specs.Tree.{port_of}
use Rattle.cal_place.specs.Around.{comp_at, design_at, names_at}
use Rattle.cal_place.specs.Signatures.{side_of}
use Rattle.cal_rules.proofs.DrivenLemmas.{sides_told}
use Rattle.cal_place.proofs.GuardLemmas.{both_ways}
use Rattle.cal_place.proofs.ListLemmas.{told_false}
use Rattle.cal_place.proofs.SideLemmas.{has_side, has_width, no_side}
use Rattle.cal_rules.proofs.TestLemmas.{both_parts, first_fails, width_told}
use Rattle.cal_rules.proofs.controlling.has_bit.Goals as goal

pub pin-requires : goal.pin-requires
pin-requires c = c.requires

pub returns-then-eq : goal.returns-then-eq
returns-then-eq c =
    let p = c.args.place.now in
    let d = design_at p in
    let t = comp_at p in
    let port = port_of (text_of (names_at p) c.args.cell) c.args.name.now in
    let pin = c.in-Some.pin in
    both_parts (side_in d t port ≡ Some (side_of c.args.side)) (width_in d t port ≡ Some 1) c.eq.result _
    (both_ways (sides_told pin.side c.args.side c.eq.result c.eq.ensures) (has_side d t port c.pin.result c.pin.ensures pin c.args.side c.in-Some.is)) c.if-eq.true
    (width_told (width_in d t port) pin.width 1 (has_width d t port c.pin.result c.pin.ensures pin c.in-Some.is))

pub returns-else-eq : goal.returns-else-eq
returns-else-eq c =
    let p = c.args.place.now in
    let d = design_at p in
    let t = comp_at p in
    let port = port_of (text_of (names_at p) c.args.cell) c.args.name.now in
    let pin = c.in-Some.pin in
    first_fails (side_in d t port ≡ Some (side_of c.args.side)) (width_in d t port ≡ Some 1) c.eq.result
    (both_ways (sides_told pin.side c.args.side c.eq.result c.eq.ensures) (has_side d t port c.pin.result c.pin.ensures pin c.args.side c.in-Some.is)) c.if-eq.false

pub returns-in-None : goal.returns-in-None
returns-in-None c =
    let p = c.args.place.now in
    let d = design_at p in
    let t = comp_at p in
    let port = port_of (text_of (names_at p) c.args.cell) c.args.name.now in
    told_false ((side_in d t port ≡ Some (side_of c.args.side)) × (width_in d t port ≡ Some 1)) (λ both. no_side d t port c.pin.result c.pin.ensures (side_of c.args.side) c.in-None.is both.0)
