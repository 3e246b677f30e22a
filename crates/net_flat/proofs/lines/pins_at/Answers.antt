use Rattle.std.proofs.Common.{◌++◌, ◌∷◌, [], List, get_or, sym, subst}
use Rattle.hw_prims.specs.Table.{Pin}
use Rattle.cal_ast.specs.Tree.{pin_tree}
use Rattle.cal_ast.specs.declared.tree.CalPin.{CalPin}
use Rattle.net_core.specs.Netlist.{pin_of}
use Rattle.net_core.specs.Numbers.{PortHasNumbers}
use Rattle.net_flat.specs.Listing.{flat_pin}
use Rattle.net_flat.specs.inside.StandFor.{ArePins}
use Rattle.net_flat.proofs.StandLemmas.{Keeps-then, stable_pin, stand_push}
use Rattle.net_flat.proofs.TakeLemmas.{at_place, map_map_one}
use Rattle.net_flat.proofs.lines.pins_at.Goals as goal

pub loop-pin-preserved : goal.loop-pin-preserved
loop-pin-preserved c =
    let pins = c.args.pins.now in
    let i = c.loop-pin.pin-index in
    let zero_pin : CalPin = record { name = record { 0 = 0 }; width = 0 } in
    let pin : CalPin = get_or pins i zero_pin in
    let names = c.pin_at.new.names in (
      Keeps-then c.args.names.now c.loop-pin.names names c.loop-pin.invariant.0 c.pin_at.ensures.kept,
      λ path at.
          let more = map_map_one (pin_tree c.args.source.now) pins i pin c.loop-pin-test.true (at_place pins i zero_pin c.loop-pin-test.true) (flat_pin path) in
          rw c.in_ok-push.ensures.items
          (subst (λ (ps : List Pin). ArePins names ps (c.loop-pin.found.items ++ c.in_ok-pin_at.field-0 ∷ [])) (sym more)
          (stand_push PortHasNumbers pin_of stable_pin c.loop-pin.names names _ c.loop-pin.found.items _ c.in_ok-pin_at.field-0 c.pin_at.ensures.kept (c.loop-pin.invariant.1 path at) (c.in_ok-pin_at.ensures.pin path at))),
    )
