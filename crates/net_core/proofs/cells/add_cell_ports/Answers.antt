use Rattle.std.proofs.Common.{◌<◌, ◌^◌, length, Ok, not, nat_lt, ap, sym, ◌∙◌, arith}
use Rattle.std.proofs.lemmas.Option.{slice_get_within}
use Rattle.hw_prims.specs.Table.{pins_of, pin}
use Rattle.net_core.specs.PortList.{port_line}
use Rattle.net_core.proofs.CellLemmas.{CellStep, cell_port_of, cell_stops, cell_goes_on, cell_adds}
use Rattle.net_core.proofs.cells.add_cell_ports.Goals as goal

pub returns-then-not-branch-clause-new : goal.returns-then-not-branch-clause-new
returns-then-not-branch-clause-new c =
    let input = nat_lt c.loop-pin.i c.inputs-inputs.result in
    let line = port_line c.as_slice.result.now (record { width = c.in-Some.pin.width; readable = not input; writable = input }) in
    let step : CellStep c.args.prim c.args.cell.now c.args.ports.now c.loop-pin.ports c.loop-pin.i line =
    record {
      distinct = c.requires.distinct;
      ports_are = c.loop-pin.invariant.1;
      at = cell_port_of c.args.prim c.args.cell.now c.loop-pin.i c.in-Some.pin.name.now c.in-Some.pin.width c.as_slice.result.now input c.in-Some.ensures.pin
          (c.as_slice.ensures.value ∙ c.in_ok-join.ensures) (ap (nat_lt c.loop-pin.i) c.inputs-inputs.ensures);
    } in
    sym (cell_stops step c.in_ok-add.field-0 c.in_ok-add.ensures.new c.if-not-branch.true)

pub overflow_add-i : goal.overflow_add-i
overflow_add-i c =
    let within = slice_get_within (pins_of c.args.prim) c.loop-pin.i (pin c.in-Some.pin.name.now c.in-Some.pin.width) c.in-Some.ensures.pin in
    let few : length (pins_of c.args.prim) < 2 ^ 64 = c.requires.few in
    omega arith

pub loop-pin-smaller : goal.loop-pin-smaller
loop-pin-smaller c =
    let within = slice_get_within (pins_of c.args.prim) c.loop-pin.i (pin c.in-Some.pin.name.now c.in-Some.pin.width) c.in-Some.ensures.pin in
    omega arith

pub loop-pin-preserved : goal.loop-pin-preserved
loop-pin-preserved c =
    let input = nat_lt c.loop-pin.i c.inputs-inputs.result in
    let line = port_line c.as_slice.result.now (record { width = c.in-Some.pin.width; readable = not input; writable = input }) in
    let step : CellStep c.args.prim c.args.cell.now c.args.ports.now c.loop-pin.ports c.loop-pin.i line =
    record {
      distinct = c.requires.distinct;
      ports_are = c.loop-pin.invariant.1;
      at = cell_port_of c.args.prim c.args.cell.now c.loop-pin.i c.in-Some.pin.name.now c.in-Some.pin.width c.as_slice.result.now input c.in-Some.ensures.pin
          (c.as_slice.ensures.value ∙ c.in_ok-join.ensures) (ap (nat_lt c.loop-pin.i) c.inputs-inputs.ensures);
    } in
    let within = slice_get_within (pins_of c.args.prim) c.loop-pin.i (pin c.in-Some.pin.name.now c.in-Some.pin.width) c.in-Some.ensures.pin in (
      omega arith,
      c.in_ok-add.ensures.added (ap Ok c.if-not-branch.false) ∙ cell_adds step,
      cell_goes_on step c.in_ok-add.field-0 c.in_ok-add.ensures.new c.if-not-branch.false c.loop-pin.invariant.2,
    )
