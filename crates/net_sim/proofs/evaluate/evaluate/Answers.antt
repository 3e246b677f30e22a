use Rattle.std.proofs.Common.{◌≡◌, ◌<◌, Some, length, get_or, map, refl, ap, sym, ◌∙◌, subst, arith}
use Rattle.std.proofs.lemmas.Option.{slice_get_read, get_or_from_slice_get}
use Rattle.hw_bits.specs.Values.{values_of}
use Rattle.hw_prims.specs.Cell.{CellValue}
use Rattle.net_core.specs.Netlist.{netlist_of}
use Rattle.net_sim.proofs.LoopLemmas.{port_within, widths_more, evaluated_more, evaluated_all}
use Rattle.net_sim.proofs.PlanLemmas.{width_of_value, count_values}
use Rattle.net_sim.specs.Evaluated.{IsLeastConflict}
use Rattle.net_sim.specs.Layout.{port_widths}
use Rattle.net_sim.specs.inside.Settled.{FitsWidth}
use Rattle.net_sim.specs.Sim.{input_row, states_of}
use Rattle.net_sim.proofs.evaluate.evaluate.Goals as goal

pub loop-port-preserved : goal.loop-port-preserved
loop-port-preserved c =
    let plan = c.args.plan.now in
    let n = netlist_of plan.net.now in
    let inputs = input_row n (values_of c.args.inputs.now) in
    let states = states_of n (map (λ (s : CellValue). s.state) c.args.states.now) in
    let compiled = c.requires.plan.compiled in
    let values = c.loop-port.values in
    let widths = c.loop-port.invariant.widths in
    let items = c.ports-port-items.result.now in
    let i = c.loop-port.port-index in
    let port = get_or items i 0 in
    let old = c.index-values-port.result in
    let within = port_within n plan.order.now plan.cells.items c.requires.plan.lowered.sources plan.givers.items compiled inputs states values widths items c.ports-port-items.ensures i c.loop-port-test.true in
    let lt : port < length values = omega (arith, within, count_values n values widths) in
    let at = width_of_value (port_widths n) values widths port old (slice_get_read values (length values) port old refl lt c.index-values-port.is) in
    let width : c.width.result ≡ get_or (port_widths n) port 0 = c.width.ensures ∙ sym (get_or_from_slice_get (port_widths n) port old.width 0 at) in
    let has = subst (λ w. FitsWidth w c.settle_port-settled.result) (sym width) c.settle_port-settled.ensures.width in
    let same : c.value.result.width ≡ old.width = c.value.ensures.width ∙ c.width.ensures in
    let least = subst (λ names. IsLeastConflict names c.settle_port-settled.result c.loop-port.conflict port c.conflict_with-conflict.result) c.requires.plan.table.names c.conflict_with-conflict.ensures in
    record {
      widths = widths_more n plan.order.now plan.cells.items c.requires.plan.lowered.sources plan.givers.items compiled inputs states values widths items c.ports-port-items.ensures i c.value.result (at ∙ ap Some (sym same));
      made = evaluated_more n plan.order.now plan.cells.items c.requires.plan.lowered.sources plan.givers.items compiled inputs states values widths items c.ports-port-items.ensures i c.value.result c.settle_port-settled.result c.loop-port.conflict c.conflict_with-conflict.result c.loop-port-test.true (c.value.ensures.value has) c.settle_port-settled.ensures.value c.settle_port-settled.ensures.clash least c.loop-port.invariant.made;
    }

pub returns-clause-row : goal.returns-clause-row
returns-clause-row c =
    let plan = c.args.plan.now in
    let n = netlist_of plan.net.now in
    let size = ap length c.ports-port-items.ensures in
    evaluated_all n plan.order.now plan.cells.items c.requires.plan.lowered.sources plan.givers.items c.requires.plan.compiled (values_of c.args.inputs.now) (map (λ (s : CellValue). s.state) c.args.states.now) c.loop-port.values c.loop-port.conflict c.loop-port.port-index c.loop-port.invariant.widths (omega (arith, size)) (omega (arith, size)) c.loop-port.invariant.made
