use Rattle.std.proofs.Common.{◌++◌, List, map, sym, subst, ◌∙◌}
use Rattle.std.proofs.lemmas.List.{map-append}
use Rattle.hw_prims.specs.Table.{Pin}
use Rattle.cal_ast.specs.Tree.{pin_tree}
use Rattle.cal_ast.specs.declared.tree.CalPin.{CalPin}
use Rattle.net_core.specs.Netlist.{pin_of}
use Rattle.net_core.specs.Numbers.{PortHasNumbers}
use Rattle.net_flat.specs.Listing.{flat_pin}
use Rattle.net_flat.specs.inside.StandFor.{ArePins}
use Rattle.net_flat.proofs.StandLemmas.{stable_pin, stand_append}
use Rattle.net_flat.proofs.listing.wires_of.Goals as goal

pub returns-clause-wires : goal.returns-clause-wires
returns-clause-wires c = λ path at.
    let source = c.args.source.now in
    let i = c.args.instance.now in
    let lines = λ (ps : List CalPin). map (flat_pin path) (map (pin_tree source) ps) in
    let ins = subst (λ (ps : List CalPin). ArePins c.pins_at.new.names (lines ps) c.in_ok-found.found.items) c.deref-2.ensures.value (c.in_ok-found.ensures.pins path (c.deref.ensures.value ∙ at)) in
    let outs = subst (λ (ps : List CalPin). ArePins c.pins_at-2.new.names (lines ps) c.in_ok-outs.outs.items) c.deref-4.ensures.value (c.in_ok-outs.ensures.pins path (c.deref-3.ensures.value ∙ at)) in
    let both = map-append (flat_pin path) (map (pin_tree source) i.comp.now.ins.items) (map (pin_tree source) i.comp.now.outs.items) in
    rw c.in_ok-append.ensures.items
    (subst (λ (ps : List Pin). ArePins c.pins_at-2.new.names ps (c.in_ok-found.found.items ++ c.in_ok-outs.outs.items)) (sym both)
    (stand_append PortHasNumbers pin_of stable_pin c.pins_at.new.names c.pins_at-2.new.names _ _ c.in_ok-found.found.items c.in_ok-outs.outs.items c.pins_at-2.ensures.kept ins outs))
