use Rattle.std.proofs.Common.{ap, option_map, ◌∙◌}
use Rattle.hw_names.specs.Name.{Text, text_of}
use Rattle.cal_ast.specs.Ports.{port_in}
use Rattle.cal_place.specs.Around.{comp_at, design_at, names_at}
use Rattle.cal_place.specs.Signatures.{found}
use Rattle.cal_place.proofs.PlaceLemmas.{at_pin}
use Rattle.cal_place.proofs.place.Place.port.Goals as goal

pub returns : goal.returns
returns c =
    let p = c.args.self.now in
    c.pin.ensures ∙ ap (λ (t : Text). option_map found (port_in (design_at p) (comp_at p) (at_pin (option_map (text_of (names_at p)) c.args.port.cell) t))) c.text.ensures
