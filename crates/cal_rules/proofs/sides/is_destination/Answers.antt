use Rattle.std.proofs.Common.{◌≡◌, ◌↔◌, List, Some, codes, ap, subst, sym, ◌∙◌}
use Rattle.std.specs.Bool.{IsTrue}
use Rattle.hw_names.specs.Name.{Text}
use Rattle.cal_ast.specs.Numbers.{PortHasNumbers}
use Rattle.cal_ast.specs.Ports.{Side, is_own, side_in}
use Rattle.cal_ast.specs.Sides.{IsDestination, driven_side}
use Rattle.cal_ast.specs.Tree.{port_tree}
use Rattle.cal_place.specs.Around.{comp_at, design_at, names_at}
use Rattle.cal_rules.proofs.DrivenLemmas.{driven_if_bare, driven_unless_done}
use Rattle.cal_place.proofs.ListLemmas.{told_false}
use Rattle.cal_rules.proofs.TestLemmas.{fails}
use Rattle.cal_rules.proofs.sides.is_destination.Goals.{After-is_on_side}
use Rattle.cal_rules.proofs.sides.is_destination.Goals as goal

-- what the test of the side says
side_told : (c : After-is_on_side) → IsTrue c.is_on_side.result ↔ (side_in (design_at c.args.place.now) (comp_at c.args.place.now) (port_tree (names_at c.args.place.now) c.args.port) ≡ Some (driven_side (port_tree (names_at c.args.place.now) c.args.port).cell))
side_told c =
    let p = c.args.place.now in
    let S : Side → Type 0 = λ s. IsTrue c.is_on_side.result ↔ (side_in (design_at p) (comp_at p) (port_tree (names_at p) c.args.port) ≡ Some s) in
    subst S (c.driven_side.ensures (names_at p)) c.is_on_side.ensures

pub is_own-requires : goal.is_own-requires
is_own-requires c = subst (λ (names : List Text). PortHasNumbers names c.args.port) (sym c.names.ensures) c.requires

pub returns-then-not-is_on_side : goal.returns-then-not-is_on_side
returns-then-not-is_on_side c =
    let p = c.args.place.now in
    let port = port_tree (names_at p) c.args.port in
    told_false (IsDestination (design_at p) (comp_at p) port)
    (λ destination. fails (side_in (design_at p) (comp_at p) port ≡ Some (driven_side port.cell)) c.is_on_side.result (side_told (goal.at.returns-then-not-is_on_side c).After-is_on_side) c.if-not-is_on_side.true destination.side)

pub returns-then-signature : goal.returns-then-signature
returns-then-signature c =
    let p = c.args.place.now in
    driven_if_bare (design_at p) (comp_at p) (port_tree (names_at p) c.args.port) ((side_told (goal.at.returns-then-signature c).After-is_on_side).0 c.if-not-is_on_side.false)
    c.signature.result.now.bare c.signature.ensures.bare c.if-signature.true

pub returns : goal.returns
returns c =
    let p = c.args.place.now in
    driven_unless_done (design_at p) (comp_at p) (port_tree (names_at p) c.args.port) ((side_told (goal.at.returns c).After-is_on_side).0 c.if-not-is_on_side.false)
    c.signature.result.now.bare c.is_own.result c.signature.ensures.bare c.if-signature.false
    (c.is_own.ensures ∙ ap (λ (names : List Text). is_own (codes "done") (port_tree names c.args.port)) c.names.ensures)
