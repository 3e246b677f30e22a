use Rattle.std.proofs.Common.{◌^◌, ◌≡◌, ◌<◌, length, get_or, map, ap, sym, ◌∙◌, arith, rules, Some, refl, subst}
use Rattle.std.specs.Prelude.{option_map}
use Rattle.std.proofs.lemmas.List.{length-map}
use Rattle.std.proofs.lemmas.Option.{slice_get-map, slice_get_within, slice_get_read, get_or_from_slice_get}
use Rattle.hw_bits.specs.Values.{values_of, widths_of}
use Rattle.hw_bits.specs.declared.bits.Bits.{Bits}
use Rattle.hw_prims.specs.Cell.{CellValue}
use Rattle.hw_prims.specs.Table.{Pin}
use Rattle.net_core.specs.NetRun.{values_for}
use Rattle.net_core.specs.Netlist.{netlist_of}
use Rattle.net_sim.proofs.PlanLemmas.{count_givers, giver_at, given_within, read_cell, cell_of_output, input_width, count_numbers}
use Rattle.net_sim.proofs.PortValueLemmas.{no_clash, value_from_input, value_from_sets, value_from_cell}
use Rattle.net_sim.proofs.SettleLemmas.{value_is, width_is, clash_is, clash_of}
use Rattle.net_sim.proofs.StepLemmas.{same_count, same_prim}
use Rattle.net_sim.specs.Evaluated.{IsValueOf, cell_inputs}
use Rattle.net_sim.specs.Layout.{port_widths, name_of}
use Rattle.net_sim.specs.inside.Settled.{settled_value}
use Rattle.net_sim.specs.Sim.{input_row, states_of, port_row}
use Rattle.net_sim.specs.declared.plan.Giver.TheVariants.{Input, Output, Driven}
use Rattle.net_sim.proofs.evaluate.settle_port.Goals as goal

pub index-requires : goal.index-requires
index-requires c =
    let plan = c.args.plan.now in
    omega (arith, count_givers (netlist_of plan.net.now) plan.order.now plan.cells.items c.requires.plan.lowered.sources plan.givers.items c.requires.plan.compiled, c.requires.port, plan.givers.ok.0)

pub bounds-inputs-port : goal.bounds-inputs-port
bounds-inputs-port c =
    let plan = c.args.plan.now in
    let n = netlist_of plan.net.now in
    let given = giver_at n plan.order.now plan.cells.items c.requires.plan.lowered.sources plan.givers.items c.requires.plan.compiled c.args.port c.index.result.now Input c.requires.port c.index.ensures c.in-Input.is in
    omega (arith, given_within n plan.order.now plan.cells.items c.requires.plan.lowered.sources plan.givers.items c.requires.plan.compiled c.args.port given, ap length c.requires.inputs, length-map c.args.inputs.now (λ (b : Bits). b.width), length-map n.ins (λ (p : Pin). p.width))

pub index-requires-in-Output : goal.index-requires-in-Output
index-requires-in-Output c =
    let plan = c.args.plan.now in
    let n = netlist_of plan.net.now in
    let given = giver_at n plan.order.now plan.cells.items c.requires.plan.lowered.sources plan.givers.items c.requires.plan.compiled c.args.port c.index.result.now (Output c.in-Output.cell c.in-Output.output) c.requires.port c.index.ensures c.in-Output.is in
    let o = cell_of_output n plan.order.now plan.cells.items c.requires.plan.lowered.sources plan.givers.items c.requires.plan.compiled c.args.port c.in-Output.cell c.in-Output.output given in
    omega (arith, slice_get_within plan.cells.items c.in-Output.cell o.0 o.1.at, plan.cells.ok.0)

pub offset_bounds-states-cell : goal.offset_bounds-states-cell
offset_bounds-states-cell c =
    let plan = c.args.plan.now in
    let n = netlist_of plan.net.now in
    let given = giver_at n plan.order.now plan.cells.items c.requires.plan.lowered.sources plan.givers.items c.requires.plan.compiled c.args.port c.index.result.now (Output c.in-Output.cell c.in-Output.output) c.requires.port c.index.ensures c.in-Output.is in
    let o = cell_of_output n plan.order.now plan.cells.items c.requires.plan.lowered.sources plan.givers.items c.requires.plan.compiled c.args.port c.in-Output.cell c.in-Output.output given in
    let lt : c.in-Output.cell < length c.args.states.now = omega (arith, slice_get_within plan.cells.items c.in-Output.cell o.0 o.1.at, same_count plan.cells.items c.args.states.now c.requires.states) in
    search (rules, lt)

pub bounds-states-cell : goal.bounds-states-cell
bounds-states-cell c =
    let plan = c.args.plan.now in
    let n = netlist_of plan.net.now in
    let given = giver_at n plan.order.now plan.cells.items c.requires.plan.lowered.sources plan.givers.items c.requires.plan.compiled c.args.port c.index.result.now (Output c.in-Output.cell c.in-Output.output) c.requires.port c.index.ensures c.in-Output.is in
    let r = read_cell n plan.order.now plan.cells.items c.requires.plan.lowered.sources plan.givers.items c.requires.plan.compiled c.args.port c.in-Output.cell c.in-Output.output given c.index-in-Output.result.now c.index-in-Output.ensures in
    omega (arith, slice_get_within plan.cells.items c.in-Output.cell c.index-in-Output.result.now r.at, same_count plan.cells.items c.args.states.now c.requires.states)

pub output_value-value-requires-clause-prim : goal.output_value-value-requires-clause-prim
output_value-value-requires-clause-prim c =
    let plan = c.args.plan.now in
    let n = netlist_of plan.net.now in
    let given = giver_at n plan.order.now plan.cells.items c.requires.plan.lowered.sources plan.givers.items c.requires.plan.compiled c.args.port c.index.result.now (Output c.in-Output.cell c.in-Output.output) c.requires.port c.index.ensures c.in-Output.is in
    let r = read_cell n plan.order.now plan.cells.items c.requires.plan.lowered.sources plan.givers.items c.requires.plan.compiled c.args.port c.in-Output.cell c.in-Output.output given c.index-in-Output.result.now c.index-in-Output.ensures in
    let lt : c.in-Output.cell < length c.args.states.now = omega (arith, slice_get_within plan.cells.items c.in-Output.cell c.index-in-Output.result.now r.at, same_count plan.cells.items c.args.states.now c.requires.states) in
    same_prim plan.cells.items c.args.states.now c.requires.states c.in-Output.cell c.index-in-Output.result.now c.index-states-cell.result r.at (slice_get_read c.args.states.now (length c.args.states.now) c.in-Output.cell c.index-states-cell.result refl lt c.index-states-cell.is)

pub output_value-value-requires-clause-inputs : goal.output_value-value-requires-clause-inputs
output_value-value-requires-clause-inputs c =
    let plan = c.args.plan.now in
    let n = netlist_of plan.net.now in
    let given = giver_at n plan.order.now plan.cells.items c.requires.plan.lowered.sources plan.givers.items c.requires.plan.compiled c.args.port c.index.result.now (Output c.in-Output.cell c.in-Output.output) c.requires.port c.index.ensures c.in-Output.is in
    let r = read_cell n plan.order.now plan.cells.items c.requires.plan.lowered.sources plan.givers.items c.requires.plan.compiled c.args.port c.in-Output.cell c.in-Output.output given c.index-in-Output.result.now c.index-in-Output.ensures in
    ap (λ w. cell_inputs w c.index-in-Output.result.now) c.requires.values ∙ r.inputs

pub output_value-value-requires-clause-within : goal.output_value-value-requires-clause-within
output_value-value-requires-clause-within c =
    let plan = c.args.plan.now in
    let n = netlist_of plan.net.now in
    let given = giver_at n plan.order.now plan.cells.items c.requires.plan.lowered.sources plan.givers.items c.requires.plan.compiled c.args.port c.index.result.now (Output c.in-Output.cell c.in-Output.output) c.requires.port c.index.ensures c.in-Output.is in
    let r = read_cell n plan.order.now plan.cells.items c.requires.plan.lowered.sources plan.givers.items c.requires.plan.compiled c.args.port c.in-Output.cell c.in-Output.output given c.index-in-Output.result.now c.index-in-Output.ensures in
    omega (arith, r.room, ap length c.requires.values, length-map c.args.values.now (λ (b : Bits). b.width))

pub output_value-value-requires-clause-output : goal.output_value-value-requires-clause-output
output_value-value-requires-clause-output c =
    let plan = c.args.plan.now in
    let n = netlist_of plan.net.now in
    let given = giver_at n plan.order.now plan.cells.items c.requires.plan.lowered.sources plan.givers.items c.requires.plan.compiled c.args.port c.index.result.now (Output c.in-Output.cell c.in-Output.output) c.requires.port c.index.ensures c.in-Output.is in
    (read_cell n plan.order.now plan.cells.items c.requires.plan.lowered.sources plan.givers.items c.requires.plan.compiled c.args.port c.in-Output.cell c.in-Output.output given c.index-in-Output.result.now c.index-in-Output.ensures).within

pub returns-in-Input-clause-width : goal.returns-in-Input-clause-width
returns-in-Input-clause-width c =
    let plan = c.args.plan.now in
    let n = netlist_of plan.net.now in
    let given = giver_at n plan.order.now plan.cells.items c.requires.plan.lowered.sources plan.givers.items c.requires.plan.compiled c.args.port c.index.result.now Input c.requires.port c.index.ensures c.in-Input.is in
    let within = given_within n plan.order.now plan.cells.items c.requires.plan.lowered.sources plan.givers.items c.requires.plan.compiled c.args.port given in
    let lt : c.args.port < length c.args.inputs.now = omega (arith, within, ap length c.requires.inputs, length-map c.args.inputs.now (λ (b : Bits). b.width), length-map n.ins (λ (p : Pin). p.width)) in
    let at = slice_get_read c.args.inputs.now (length c.args.inputs.now) c.args.port c.index-inputs-port.result refl lt c.index-inputs-port.is in
    let read = get_or_from_slice_get (widths_of c.args.inputs.now) c.args.port c.index-inputs-port.result.width 0 (slice_get-map (λ (b : Bits). b.width) c.args.inputs.now c.args.port ∙ ap (option_map (λ (b : Bits). b.width)) at) in
    let width = sym (get_or_from_slice_get (port_widths n) c.args.port c.index-inputs-port.result.width 0
    (input_width n plan.order.now plan.cells.items c.requires.plan.lowered.sources plan.givers.items c.requires.plan.compiled (widths_of c.args.inputs.now) c.args.port c.requires.inputs within ∙ ap Some read)) in
    subst (λ v. v < 2 ^ get_or (port_widths n) c.args.port 0) (sym c.value.ensures) (subst (λ w. c.index-inputs-port.result.value < 2 ^ w) width c.index-inputs-port.result.fits)

pub returns-in-Input-clause-value : goal.returns-in-Input-clause-value
returns-in-Input-clause-value c =
    let plan = c.args.plan.now in
    let n = netlist_of plan.net.now in
    let given = giver_at n plan.order.now plan.cells.items c.requires.plan.lowered.sources plan.givers.items c.requires.plan.compiled c.args.port c.index.result.now Input c.requires.port c.index.ensures c.in-Input.is in
    let within = given_within n plan.order.now plan.cells.items c.requires.plan.lowered.sources plan.givers.items c.requires.plan.compiled c.args.port given in
    let count : length c.args.inputs.now ≡ length n.ins = omega (arith, ap length c.requires.inputs, length-map c.args.inputs.now (λ (b : Bits). b.width), length-map n.ins (λ (p : Pin). p.width)) in
    let at = slice_get_read c.args.inputs.now (length c.args.inputs.now) c.args.port c.index-inputs-port.result refl (omega (arith, within, count)) c.index-inputs-port.is in
    let value = get_or_from_slice_get (values_of c.args.inputs.now) c.args.port c.index-inputs-port.result.value 0 (slice_get-map (λ (b : Bits). b.value) c.args.inputs.now c.args.port ∙ ap (option_map (λ (b : Bits). b.value)) at) in
    subst (IsValueOf n (input_row n (values_of c.args.inputs.now)) (states_of n (map (λ (s : CellValue). s.state) c.args.states.now)) (port_row n (values_of c.args.values.now)) (name_of n c.args.port)) (value ∙ sym c.value.ensures)
    (value_from_input n plan.order.now plan.cells.items c.requires.plan.lowered.sources plan.givers.items c.requires.plan.compiled (values_of c.args.values.now) (count_numbers n c.args.values.now c.requires.values) c.args.port c.requires.port (values_of c.args.inputs.now) (states_of n (map (λ (s : CellValue). s.state) c.args.states.now)) (length-map c.args.inputs.now (λ (b : Bits). b.value) ∙ count) given)

pub returns-in-Output-clause-width : goal.returns-in-Output-clause-width
returns-in-Output-clause-width c =
    let plan = c.args.plan.now in
    let n = netlist_of plan.net.now in
    let given = giver_at n plan.order.now plan.cells.items c.requires.plan.lowered.sources plan.givers.items c.requires.plan.compiled c.args.port c.index.result.now (Output c.in-Output.cell c.in-Output.output) c.requires.port c.index.ensures c.in-Output.is in
    let width = sym (get_or_from_slice_get (port_widths n) c.args.port c.output_value-value.result.width 0
    ((read_cell n plan.order.now plan.cells.items c.requires.plan.lowered.sources plan.givers.items c.requires.plan.compiled c.args.port c.in-Output.cell c.in-Output.output given c.index-in-Output.result.now c.index-in-Output.ensures).width c.output_value-value.result.width c.output_value-value.ensures.width)) in
    subst (λ v. v < 2 ^ get_or (port_widths n) c.args.port 0) (sym c.value-in-Output.ensures) (subst (λ w. c.output_value-value.result.value < 2 ^ w) width c.output_value-value.result.fits)

pub returns-in-Output-clause-value : goal.returns-in-Output-clause-value
returns-in-Output-clause-value c =
    let plan = c.args.plan.now in
    let n = netlist_of plan.net.now in
    let given = giver_at n plan.order.now plan.cells.items c.requires.plan.lowered.sources plan.givers.items c.requires.plan.compiled c.args.port c.index.result.now (Output c.in-Output.cell c.in-Output.output) c.requires.port c.index.ensures c.in-Output.is in
    let r = read_cell n plan.order.now plan.cells.items c.requires.plan.lowered.sources plan.givers.items c.requires.plan.compiled c.args.port c.in-Output.cell c.in-Output.output given c.index-in-Output.result.now c.index-in-Output.ensures in
    let lt : c.in-Output.cell < length c.args.states.now = omega (arith, slice_get_within plan.cells.items c.in-Output.cell c.index-in-Output.result.now r.at, same_count plan.cells.items c.args.states.now c.requires.states) in
    subst (IsValueOf n (input_row n (values_of c.args.inputs.now)) (states_of n (map (λ (x : CellValue). x.state) c.args.states.now)) (port_row n (values_of c.args.values.now)) (name_of n c.args.port)) (sym c.value-in-Output.ensures)
    (value_from_cell n plan.order.now plan.cells.items c.requires.plan.lowered.sources plan.givers.items c.requires.plan.compiled (values_of c.args.values.now) (count_numbers n c.args.values.now c.requires.values) c.args.port c.requires.port (input_row n (values_of c.args.inputs.now)) c.args.states.now c.in-Output.cell c.in-Output.output c.index-in-Output.result.now c.index-states-cell.result c.output_value-value.result.value c.requires.states given r.at (slice_get_read c.args.states.now (length c.args.states.now) c.in-Output.cell c.index-states-cell.result refl lt c.index-states-cell.is) c.output_value-value.ensures.value)

pub returns-in-Driven-clause-width : goal.returns-in-Driven-clause-width
returns-in-Driven-clause-width c =
    let n = netlist_of c.args.plan.now.net.now in
    width_is (get_or (port_widths n) c.args.port 0) (values_for (name_of n c.args.port) (port_row n (values_of c.args.values.now)) n.sets) c.settle.result c.settle.ensures

pub returns-in-Driven-clause-value : goal.returns-in-Driven-clause-value
returns-in-Driven-clause-value c =
    let plan = c.args.plan.now in
    let n = netlist_of plan.net.now in
    let given = giver_at n plan.order.now plan.cells.items c.requires.plan.lowered.sources plan.givers.items c.requires.plan.compiled c.args.port c.index.result.now Driven c.requires.port c.index.ensures c.in-Driven.is in
    value_from_sets n plan.order.now plan.cells.items c.requires.plan.lowered.sources plan.givers.items c.requires.plan.compiled (values_of c.args.values.now) (count_numbers n c.args.values.now c.requires.values) c.args.port c.requires.port (input_row n (values_of c.args.inputs.now)) (states_of n (map (λ (s : CellValue). s.state) c.args.states.now)) (settled_value c.settle.result) given
    (value_is (get_or (port_widths n) c.args.port 0) (values_for (name_of n c.args.port) (port_row n (values_of c.args.values.now)) n.sets) c.settle.result c.settle.ensures)

pub returns-in-Driven-clause-clash : goal.returns-in-Driven-clause-clash
returns-in-Driven-clause-clash c =
    let n = netlist_of c.args.plan.now.net.now in
    let values = values_for (name_of n c.args.port) (port_row n (values_of c.args.values.now)) n.sets in
    let width = get_or (port_widths n) c.args.port 0 in
    (clash_is width values c.settle.result c.settle.ensures, clash_of width values c.settle.result c.settle.ensures)

pub returns-in-Input-clause-clash : goal.returns-in-Input-clause-clash
returns-in-Input-clause-clash c =
    let plan = c.args.plan.now in
    let n = netlist_of plan.net.now in
    let given = giver_at n plan.order.now plan.cells.items c.requires.plan.lowered.sources plan.givers.items c.requires.plan.compiled c.args.port c.index.result.now Input c.requires.port c.index.ensures c.in-Input.is in
    (λ none. absurd none, no_clash n plan.order.now plan.cells.items c.requires.plan.lowered.sources plan.givers.items c.requires.plan.compiled (values_of c.args.values.now) (count_numbers n c.args.values.now c.requires.values) c.args.port c.requires.port Input given (λ e. cc))

pub returns-in-Output-clause-clash : goal.returns-in-Output-clause-clash
returns-in-Output-clause-clash c =
    let plan = c.args.plan.now in
    let n = netlist_of plan.net.now in
    let giver = Output c.in-Output.cell c.in-Output.output in
    let given = giver_at n plan.order.now plan.cells.items c.requires.plan.lowered.sources plan.givers.items c.requires.plan.compiled c.args.port c.index.result.now giver c.requires.port c.index.ensures c.in-Output.is in
    (λ none. absurd none, no_clash n plan.order.now plan.cells.items c.requires.plan.lowered.sources plan.givers.items c.requires.plan.compiled (values_of c.args.values.now) (count_numbers n c.args.values.now c.requires.values) c.args.port c.requires.port giver given (λ e. cc))
