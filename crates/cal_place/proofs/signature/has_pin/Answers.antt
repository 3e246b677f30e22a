use Rattle.std.proofs.Common.{◌≤◌, bytes_eq, get_or, length, map, sym, ap, ◌∙◌, arith}
use Rattle.std.proofs.lemmas.List.{length-map}
use Rattle.hw_names.proofs.NameLemmas.{text_of-slice_get}
use Rattle.hw_prims.specs.Table.{Pin}
use Rattle.cal_ast.specs.Tree.{pin_tree}
use Rattle.cal_ast.specs.declared.tree.CalPin.{CalPin}
use Rattle.cal_place.proofs.ListLemmas.{any_found, any_more, any_none, mapped_at}
use Rattle.cal_place.proofs.signature.has_pin.Goals as goal

no_pin : CalPin
no_pin = record { name = record { 0 = 0 }; width = 0 }

pub text-requires : goal.text-requires
unfolding no_pin
text-requires c = c.requires c.loop-pin.pin-index no_pin c.loop-pin-test.true

pub returns-then-eq : goal.returns-then-eq
unfolding no_pin
returns-then-eq c =
    let names = c.args.names.now in
    let name = c.args.name.now in
    let pins = c.args.pins.now in
    let n = c.loop-pin.pin-index in
    let pin = get_or pins n no_pin in
    let yes' = ap (λ t. bytes_eq t name) (text_of-slice_get names pin.name c.text.result.now c.text.ensures) ∙ sym c.eq.ensures ∙ c.if-eq.true in
    sym (any_found (λ (p : Pin). bytes_eq p.name name) (map (pin_tree names) pins) n (pin_tree names pin)
    (mapped_at (pin_tree names) pins n no_pin c.loop-pin-test.true) yes')

pub loop-pin-preserved : goal.loop-pin-preserved
unfolding no_pin
loop-pin-preserved c =
    let names = c.args.names.now in
    let name = c.args.name.now in
    let pins = c.args.pins.now in
    let n = c.loop-pin.pin-index in
    let pin = get_or pins n no_pin in
    let no = ap (λ t. bytes_eq t name) (text_of-slice_get names pin.name c.text.result.now c.text.ensures) ∙ sym c.eq.ensures ∙ c.if-eq.false in
    any_more (λ (p : Pin). bytes_eq p.name name) (map (pin_tree names) pins) n (pin_tree names pin)
    (mapped_at (pin_tree names) pins n no_pin c.loop-pin-test.true) c.loop-pin.invariant no

pub returns : goal.returns
returns c =
    let tree = pin_tree c.args.names.now in
    let pins = c.args.pins.now in
    let end : length (map tree pins) ≤ c.loop-pin.pin-index = omega (arith, c.loop-pin-test.false, length-map pins tree) in
    sym (any_none (λ (p : Pin). bytes_eq p.name c.args.name.now) (map tree pins) c.loop-pin.pin-index end c.loop-pin.invariant)
