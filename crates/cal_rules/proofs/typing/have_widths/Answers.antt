use Rattle.std.proofs.Common.{◌≤◌, length, arith}
use Rattle.std.proofs.lemmas.Bool.Decides.{not_from_Decides}
use Rattle.cal_ast.specs.Tree.{pin_tree}
use Rattle.cal_ast.specs.Typing.{HasWidth}
use Rattle.cal_ast.specs.declared.tree.CalPin.{CalPin}
use Rattle.cal_rules.proofs.EachLemmas.{each_fails, each_more, each_passes}
use Rattle.cal_rules.proofs.typing.have_widths.Goals as goal

no_pin : CalPin
no_pin = record { name = record { 0 = 0 }; width = 0 }

pub returns-then-not-is_width : goal.returns-then-not-is_width
unfolding no_pin
returns-then-not-is_width c names =
    each_fails HasWidth (pin_tree names) c.args.pins.now c.loop-pin.pin-index no_pin c.loop-pin-test.true (not_from_Decides c.is_width.result c.is_width.ensures c.if-not-is_width.true)

pub loop-pin-preserved : goal.loop-pin-preserved
unfolding no_pin
loop-pin-preserved c names =
    each_more HasWidth (pin_tree names) c.args.pins.now c.loop-pin.pin-index no_pin c.loop-pin-test.true (c.loop-pin.invariant names) (c.is_width.ensures.0 c.if-not-is_width.false)

pub returns : goal.returns
returns c names =
    let end : length c.args.pins.now ≤ c.loop-pin.pin-index = omega arith in
    each_passes HasWidth (pin_tree names) c.args.pins.now c.loop-pin.pin-index end (c.loop-pin.invariant names)
