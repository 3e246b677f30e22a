use Rattle.std.proofs.Common.{get_or, sym, ap, ◌∙◌}
use Rattle.std.specs.Prelude.{bytes_eq}
use Rattle.std.proofs.lemmas.Option.{slice_get-get_or}
use Rattle.hw_names.proofs.NameLemmas.{text_of-slice_get}
use Rattle.cal_ast.specs.declared.tree.CalPin.{CalPin}
use Rattle.cal_lower.proofs.NextLemmas.{one_more}
use Rattle.cal_lower.proofs.NamedPinLemmas.{none_named, none_named_more, one_named}
use Rattle.cal_lower.proofs.bare.has_pin.Goals as goal

no_pin : CalPin
no_pin = record { name = record { 0 = 0 }; width = 0 }

pub text-requires : goal.text-requires
unfolding no_pin
text-requires c = c.requires c.loop-pin.pin-index no_pin c.loop-pin-test.true

pub returns-then-eq : goal.returns-then-eq
unfolding no_pin
returns-then-eq c =
    let names = c.args.names.now in
    let name = c.args.name.now in
    let pins = c.args.pins.now in
    let i = c.loop-pin.pin-index in
    let p = get_or pins i no_pin in
    let text = ap (λ t. bytes_eq t name) (text_of-slice_get names p.name c.text.result.now c.text.ensures) in
    sym (one_named name names pins i p (slice_get-get_or pins i no_pin c.loop-pin-test.true) (text ∙ sym c.eq.ensures ∙ c.if-eq.true))

pub loop-pin-preserved : goal.loop-pin-preserved
unfolding no_pin
loop-pin-preserved c =
    let names = c.args.names.now in
    let name = c.args.name.now in
    let pins = c.args.pins.now in
    let i = c.loop-pin.pin-index in
    let p = get_or pins i no_pin in
    let text = ap (λ t. bytes_eq t name) (text_of-slice_get names p.name c.text.result.now c.text.ensures) in
    let more = one_more pins i p (slice_get-get_or pins i no_pin c.loop-pin-test.true) in
    none_named_more name names pins i p more c.loop-pin.invariant (text ∙ sym c.eq.ensures ∙ c.if-eq.false)

pub returns : goal.returns
returns c = none_named c.args.name.now c.args.names.now c.args.pins.now c.loop-pin.pin-index c.loop-pin-test.false c.loop-pin.invariant
