use Rattle.std.proofs.Common.{◌≡◌, ap, ap₂, subst, sym, ◌∙◌, ◌&&◌, Some, arith}
use Rattle.hw_names.specs.Name.{Text}
use Rattle.hw_prims.proofs.PortNameLemmas.{HasNames, pins_differ, few_pins}
use Rattle.hw_prims.specs.declared.prim.Primitive.{Primitive}
use Rattle.net_core.specs.PortList.{IsNamedAs}
use Rattle.net_core.specs.Rules.{are_new, port_names, ports_from}
use Rattle.net_core.proofs.CellLemmas.{are_new-unsized}
use Rattle.net_core.proofs.cells.take_ports.Goals as goal

named : (name : Text) (made : _) (prim : Primitive) → IsNamedAs name made → made ≡ Some prim → HasNames name prim
named name made prim h e =
    let both = (let P : _ → Type 0 = IsNamedAs name in subst P e h) in record { inputs = both.1; outputs = both.2 }

pub add_cell_ports-requires-clause-made : goal.add_cell_ports-requires-clause-made
add_cell_ports-requires-clause-made c =
    let P : _ → Type 0 = IsNamedAs c.args.prim_name.now in (subst P c.in-Some.is c.requires).0

pub add_cell_ports-requires-clause-distinct : goal.add_cell_ports-requires-clause-distinct
add_cell_ports-requires-clause-distinct c =
    pins_differ c.args.prim_name.now c.in-Some.prim (named c.args.prim_name.now c.args.made c.in-Some.prim c.requires c.in-Some.is)

pub add_cell_ports-requires-clause-few : goal.add_cell_ports-requires-clause-few
add_cell_ports-requires-clause-few c =
    let few = few_pins c.args.prim_name.now c.in-Some.prim (named c.args.prim_name.now c.args.made c.in-Some.prim c.requires c.in-Some.is) in
    omega arith

pub returns-then-new_inputs-clause-new : goal.returns-then-new_inputs-clause-new
returns-then-new_inputs-clause-new c =
    let names = port_names c.args.ports.now in
    sym (ap (λ made. are_new names (port_names (ports_from made c.args.cell.now c.args.prim_name.now))) c.in-None.is
    ∙ are_new-unsized names c.args.cell.now c.args.prim_name.now _ _ c.input_names.ensures c.output_names.ensures
    ∙ ap₂ ◌&&◌ (sym c.in_ok-new_inputs-in-None.ensures ∙ c.if-new_inputs.true) (sym c.in_ok-new_outputs-in-None.ensures))

pub returns-else-new_inputs-clause-new : goal.returns-else-new_inputs-clause-new
returns-else-new_inputs-clause-new c =
    let names = port_names c.args.ports.now in
    sym (ap (λ made. are_new names (port_names (ports_from made c.args.cell.now c.args.prim_name.now))) c.in-None.is
    ∙ are_new-unsized names c.args.cell.now c.args.prim_name.now _ _ c.input_names.ensures c.output_names.ensures
    ∙ ap₂ ◌&&◌ (sym c.in_ok-new_inputs-in-None.ensures ∙ c.if-new_inputs.false) (sym c.in_ok-new_outputs-in-None.ensures)
    ∙ sym c.if-new_inputs.false)
