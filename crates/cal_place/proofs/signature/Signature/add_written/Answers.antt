use Rattle.std.proofs.Common.{◌≤◌, ◌++◌, get_or, length, map, take, subst, refl, ◌∙◌, arith}
use Rattle.std.proofs.lemmas.List.{length-map}
use Rattle.hw_names.proofs.NameLemmas.{text_of-slice_get}
use Rattle.cal_ast.specs.Ports.{on_side}
use Rattle.cal_ast.specs.Tree.{pin_tree}
use Rattle.cal_ast.specs.declared.tree.CalPin.{CalPin}
use Rattle.cal_place.specs.Signatures.{ShowsPorts, side_of}
use Rattle.cal_place.proofs.ListLemmas.{mapped_at}
use Rattle.cal_place.proofs.SignatureLemmas.{side_all, side_more, side_none}
use Rattle.cal_place.proofs.signature.Signature.add_written.Goals as goal

no_pin : CalPin
no_pin = record { name = record { 0 = 0 }; width = 0 }

pub text-requires : goal.text-requires
unfolding no_pin
text-requires c = c.requires c.loop-pin.pin-index no_pin c.loop-pin-test.true

pub loop-pin-init : goal.loop-pin-init
loop-pin-init c =
    let s = c.args.self.now in
    let pins = map (pin_tree c.args.names.now) c.args.pins.now in
    record {
      ports = λ ports shows. subst (ShowsPorts s) (side_none ports (side_of c.args.side) pins) shows;
      bare = refl;
      inputs = refl;
    }

pub loop-pin-preserved : goal.loop-pin-preserved
unfolding no_pin
loop-pin-preserved c =
    let names = c.args.names.now in
    let pins = map (pin_tree names) c.args.pins.now in
    let n = c.loop-pin.pin-index in
    let pin = get_or c.args.pins.now n no_pin in
    let side = side_of c.args.side in
    let at = mapped_at (pin_tree names) c.args.pins.now n no_pin c.loop-pin-test.true in
    let text = text_of-slice_get names pin.name c.text.result.now c.text.ensures in
    let before = c.loop-pin.invariant in
    record {
      ports = λ ports shows.
          subst (ShowsPorts c.add.new.self) (side_more ports side pins n (pin_tree names pin) c.text.result.now at text)
          (c.in_ok-add.ensures.ports (ports ++ on_side side (take n pins)) (before.ports ports shows));
      bare = c.in_ok-add.ensures.bare ∙ before.bare;
      inputs = c.in_ok-add.ensures.inputs ∙ before.inputs;
    }

pub returns : goal.returns
returns c =
    let pins = map (pin_tree c.args.names.now) c.args.pins.now in
    let n = c.loop-pin.pin-index in
    let end : length pins ≤ n = omega (arith, c.loop-pin-test.false, length-map c.args.pins.now (pin_tree c.args.names.now)) in
    record {
      ports = λ ports shows. subst (ShowsPorts c.loop-pin.self) (side_all ports (side_of c.args.side) pins n end) (c.loop-pin.invariant.ports ports shows);
      bare = c.loop-pin.invariant.bare;
      inputs = c.loop-pin.invariant.inputs;
    }
