use Rattle.std.proofs.Common.{Option, IfSome, option_map, sym, ap, subst, ◌∙◌}
use Rattle.hw_names.specs.Name.{text_of}
use Rattle.hw_names.specs.declared.names.NameId.{NameId}
use Rattle.net_core.specs.Numbers.{IsNumberOf}
use Rattle.cal_ast.specs.Ports.{both_sides, inputs_in, outputs_in, port_in}
use Rattle.cal_place.specs.Around.{comp_at, design_at, names_at}
use Rattle.cal_place.specs.Signatures.{found}
use Rattle.cal_place.proofs.PlaceLemmas.{at_pin}
use Rattle.cal_place.proofs.place.Place.pin.Goals as goal

pub returns-in-None : goal.returns-in-None
returns-in-None c =
    let p = c.args.self.now in
    c.find.ensures (both_sides (inputs_in (comp_at p)) (outputs_in (comp_at p))) c.signature.ensures.ports
    ∙ ap (λ (o : Option NameId). option_map found (port_in (design_at p) (comp_at p) (at_pin (option_map (text_of (names_at p)) o) c.args.name.now))) (sym c.in-None.is)

pub cell_pin-requires : goal.cell_pin-requires
cell_pin-requires c =
    let I : Option NameId → Type 0 = λ o. IfSome o (IsNumberOf (names_at c.args.self.now)) in
    subst I c.in-Some.is c.requires

pub returns-in-Some : goal.returns-in-Some
returns-in-Some c =
    let p = c.args.self.now in
    c.cell_pin.ensures
    ∙ ap (λ (o : Option NameId). option_map found (port_in (design_at p) (comp_at p) (at_pin (option_map (text_of (names_at p)) o) c.args.name.now))) (sym c.in-Some.is)
