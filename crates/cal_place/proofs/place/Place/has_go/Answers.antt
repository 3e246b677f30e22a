use Rattle.std.proofs.Common.{◌≡◌, codes, option_map, sym, ◌∙◌}
use Rattle.cal_ast.specs.Ports.{Input, both_sides, inputs_in, outputs_in, port_in}
use Rattle.cal_ast.specs.Sides.{IsSource}
use Rattle.cal_ast.specs.Tree.{own}
use Rattle.cal_place.specs.Around.{comp_at, design_at}
use Rattle.cal_place.specs.Signatures.{found}
use Rattle.cal_place.specs.declared.signature.Side.TheVariants as side
use Rattle.cal_place.proofs.GuardLemmas.{both_ways}
use Rattle.cal_place.proofs.ListLemmas.{told_false}
use Rattle.cal_place.proofs.SideLemmas.{has_side, no_side}
use Rattle.cal_place.proofs.SignatureLemmas.{same_side}
use Rattle.cal_place.proofs.place.Place.has_go.Goals as goal

pub returns-in-Some : goal.returns-in-Some
returns-in-Some c =
    let p = c.args.self.now in
    let told : c.find.result ≡ option_map found (port_in (design_at p) (comp_at p) (own (codes "go"))) =
    c.find.ensures (both_sides (inputs_in (comp_at p)) (outputs_in (comp_at p))) c.signature.ensures.ports in
    let test = same_side c.in-Some.pin.side side.Input in
    both_ways (λ t. test.0 (sym c.eq.ensures ∙ t), λ e. c.eq.ensures ∙ test.1 e)
    (has_side (design_at p) (comp_at p) (own (codes "go")) c.find.result told c.in-Some.pin side.Input c.in-Some.is)

pub returns-in-None : goal.returns-in-None
returns-in-None c =
    let p = c.args.self.now in
    let told : c.find.result ≡ option_map found (port_in (design_at p) (comp_at p) (own (codes "go"))) =
    c.find.ensures (both_sides (inputs_in (comp_at p)) (outputs_in (comp_at p))) c.signature.ensures.ports in
    told_false (IsSource (design_at p) (comp_at p) (own (codes "go"))) (no_side (design_at p) (comp_at p) (own (codes "go")) c.find.result told Input c.in-None.is)
