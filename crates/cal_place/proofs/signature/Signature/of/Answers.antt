use Rattle.std.proofs.Common.{◌≡◌, [], All, length, map, sym, ap, subst, ◌∙◌}
use Rattle.cal_ast.specs.Numbers.{PinHasNumber}
use Rattle.cal_ast.specs.Tree.{component_tree, pin_tree}
use Rattle.cal_place.proofs.SignatureLemmas.{signature_shown}
use Rattle.cal_place.proofs.signature.Signature.of.Goals as goal

pub add_side-requires : goal.add_side-requires
add_side-requires c = subst (All (PinHasNumber c.args.names.now)) (sym c.deref.ensures.value) c.requires.ins

pub add_side-requires-2 : goal.add_side-requires-2
add_side-requires-2 c = subst (All (PinHasNumber c.args.names.now)) (sym c.deref-2.ensures.value) c.requires.outs

pub returns : goal.returns
returns c =
    let tree = pin_tree c.args.names.now in
    let mid = c.add_side.new.self in
    let bare = c.is_bare.ensures in
    let counted : c.len.result ≡ length mid.pins.items = (let e = c.len.ensures in cc) in
    signature_shown (component_tree c.args.names.now c.args.comp.now) mid c.add_side-2.new.self c.is_bare.result mid.bare (map tree c.deref.result.now) (map tree c.deref-2.result.now)
    bare (c.in_ok-add_side.ensures.bare ∙ bare) (ap (map tree) c.deref.ensures.value) (ap (map tree) c.deref-2.ensures.value)
    (c.in_ok-add_side.ensures.ports [] (record { names = c.new.ensures; pins = c.new-2.ensures.items }))
    (λ ports shows. c.in_ok-add_side-2.ensures.ports ports (record { names = shows.names; pins = shows.pins }))
    (c.in_ok-add_side-2.ensures.bare ∙ c.in_ok-add_side.ensures.bare ∙ bare)
    (c.in_ok-add_side-2.ensures.inputs ∙ counted)
