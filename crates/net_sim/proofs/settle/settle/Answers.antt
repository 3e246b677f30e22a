use Rattle.std.proofs.Common.{get_or, take, ap, sym, ◌∙◌, subst, arith}
use Rattle.std.proofs.lemmas.List.{take_all}
use Rattle.std.proofs.lemmas.Option.{slice_get_within, slice_get-get_or}
use Rattle.std.specs.Prelude.{slice_get}
use Rattle.hw_bits.specs.Values.{values_of}
use Rattle.net_core.specs.Netlist.{netlist_of}
use Rattle.net_sim.proofs.ConflictLemmas.{numbers_are}
use Rattle.net_sim.proofs.PlanLemmas.{number_fits, width_of}
use Rattle.net_sim.proofs.PortLemmas.{set_of_number}
use Rattle.net_sim.proofs.SettleLemmas.{acting_values, acting_more, acting_is}
use Rattle.net_sim.specs.Evaluated.{HasSourceWidth}
use Rattle.net_sim.specs.Layout.{port_widths, name_of}
use Rattle.net_sim.specs.inside.Settled.{IsSettled}
use Rattle.net_sim.specs.Sim.{port_row}
use Rattle.net_sim.proofs.settle.settle.Goals as goal

pub with_set-settled-requires-clause-number : goal.with_set-settled-requires-clause-number
with_set-settled-requires-clause-number c =
    let plan = c.args.plan.now in
    let n = netlist_of plan.net.now in
    let items = c.sets-number-items.result.now in
    let i = c.loop-number.number-index in
    let same = numbers_are n plan.order.now c.requires.plan.compiled.ordered c.args.port c.requires.port items c.sets-number-items.ensures in
    let at = ap (λ l. slice_get l i) same ∙ slice_get-get_or items i 0 c.loop-number-test.true in
    let set = set_of_number (name_of n c.args.port) 0 n.sets i (get_or items i 0) at in
    let lt = slice_get_within n.sets set.index set.set set.at in
    omega (arith, lt, set.counted)

pub loop-number-preserved : goal.loop-number-preserved
loop-number-preserved c =
    let plan = c.args.plan.now in
    let n = netlist_of plan.net.now in
    let items = c.sets-number-items.result.now in
    let i = c.loop-number.number-index in
    let row = port_row n (values_of c.args.values.now) in
    let width = get_or (port_widths n) c.args.port 0 in
    let same = numbers_are n plan.order.now c.requires.plan.compiled.ordered c.args.port c.requires.port items c.sets-number-items.ensures in
    let at = ap (λ l. slice_get l i) same ∙ slice_get-get_or items i 0 c.loop-number-test.true in
    let fits = subst (HasSourceWidth n (get_or items i 0)) (width_of n plan.order.now plan.cells.items c.requires.plan.lowered.sources plan.givers.items c.requires.plan.compiled c.args.port c.requires.port)
    (number_fits n plan.order.now plan.cells.items c.requires.plan.lowered.sources plan.givers.items c.requires.plan.compiled (name_of n c.args.port) i (get_or items i 0) at) in
    subst (λ l. IsSettled width l c.with_set-settled.result) (sym (acting_more row n.sets items i c.loop-number-test.true))
    (c.with_set-settled.ensures width (acting_values row n.sets (take i items)) fits c.loop-number.invariant)

pub returns : goal.returns
returns c =
    let plan = c.args.plan.now in
    let n = netlist_of plan.net.now in
    let items = c.sets-number-items.result.now in
    let row = port_row n (values_of c.args.values.now) in
    let same = numbers_are n plan.order.now c.requires.plan.compiled.ordered c.args.port c.requires.port items c.sets-number-items.ensures in
    let all = ap (acting_values row n.sets) (take_all c.loop-number.number-index items c.loop-number-test.false ∙ sym same) ∙ acting_is row n.sets (name_of n c.args.port) in
    subst (λ l. IsSettled (get_or (port_widths n) c.args.port 0) l c.loop-number.settled) all c.loop-number.invariant
