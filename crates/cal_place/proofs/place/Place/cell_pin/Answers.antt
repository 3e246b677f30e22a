use Rattle.std.proofs.Common.{◌<◌, Some, None, IfSome, length, option_map, sym, ap, subst, ◌∙◌}
use Rattle.hw_names.specs.Name.{text_of}
use Rattle.hw_prims.specs.Table.{IsMade}
use Rattle.cal_ast.specs.Ports.{both_sides, inputs_in, outputs_in}
use Rattle.cal_place.specs.Around.{comp_at, design_at, names_at}
use Rattle.cal_place.specs.Prototypes.{made_component, made_primitive}
use Rattle.cal_place.specs.Signatures.{found}
use Rattle.cal_place.specs.declared.prototype.Prototype.{Prototype}
use Rattle.cal_place.proofs.GraphLemmas.{exists_at}
use Rattle.cal_place.proofs.PlaceLemmas.{IsMadeIn, pin_of_none, pin_of_part, pin_of_primitive}
use Rattle.cal_place.proofs.place.Place.cell_pin.Goals as goal

pub returns-in_err-prim : goal.returns-in_err-prim
returns-in_err-prim c =
    let p = c.args.self.now in
    let name = text_of (names_at p) c.args.cell in
    let e = c.in_err-prim.ensures in
    let is : IsMadeIn (design_at p) (comp_at p) name None = record { primitive = e.primitive; in_range = tt; part = e.part; within = tt } in
    c.from_residual.ensures ∙ sym (ap (option_map found) (pin_of_none (design_at p) (comp_at p) name c.args.name.now is))

pub primitive_pin-requires : goal.primitive_pin-requires
primitive_pin-requires c =
    let I : Prototype → Type 0 = λ m. IfSome (made_primitive m) IsMade in
    subst I c.in-Primitive.is c.in_ok-prim.ensures.in_range

pub returns-in-Primitive : goal.returns-in-Primitive
returns-in-Primitive c =
    let p = c.args.self.now in
    let name = text_of (names_at p) c.args.cell in
    let e = c.in_ok-prim.ensures in
    let M : Prototype → Type 0 = λ m. IsMadeIn (design_at p) (comp_at p) name (Some m) in
    let is : M c.in_ok-prim.field-0 = record { primitive = e.primitive; in_range = e.in_range; part = e.part; within = e.within } in
    c.primitive_pin.ensures ∙ sym (ap (option_map found) (pin_of_primitive (design_at p) (comp_at p) name c.args.name.now c.in-Primitive.prim (subst M c.in-Primitive.is is)))

pub signature_of-requires : goal.signature_of-requires
signature_of-requires c =
    let W : Prototype → Type 0 = λ m. IfSome (made_component m) (λ number. number < length (design_at c.args.self.now)) in
    subst W c.in-Component.is c.in_ok-prim.ensures.within

pub returns-in-Component : goal.returns-in-Component
returns-in-Component c =
    let p = c.args.self.now in
    let name = text_of (names_at p) c.args.cell in
    let e = c.in_ok-prim.ensures in
    let M : Prototype → Type 0 = λ m. IsMadeIn (design_at p) (comp_at p) name (Some m) in
    let W : Prototype → Type 0 = λ m. IfSome (made_component m) (λ number. number < length (design_at p)) in
    let is : M c.in_ok-prim.field-0 = record { primitive = e.primitive; in_range = e.in_range; part = e.part; within = e.within } in
    let (part, at) = exists_at (design_at p) c.in-Component.part (subst W c.in-Component.is e.within) in
    c.find.ensures (both_sides (inputs_in part) (outputs_in part)) (c.signature_of.ensures part at).ports
    ∙ sym (ap (option_map found) (pin_of_part (design_at p) (comp_at p) name c.args.name.now c.in-Component.part part (subst M c.in-Component.is is) at))
