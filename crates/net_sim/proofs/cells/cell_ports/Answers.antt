use Rattle.std.proofs.Common.{◌≡◌, ◌≤◌, ◌+◌, arith, rules}
use Rattle.net_core.specs.Netlist.{netlist_of, cell_of}
use Rattle.net_sim.specs.Layout.{IsCellPorts, first_port}
use Rattle.net_sim.proofs.LayoutLemmas.{length-ports_of, first_port-le}
use Rattle.net_sim.proofs.ValidLemmas.{cell_is_primitive, cell_has_prim}
use Rattle.net_sim.proofs.CellLemmas.{cell_item, own_count_is, next_first, listed_more}
use Rattle.net_sim.proofs.cells.cell_ports.Goals.{After-outputs}
use Rattle.net_sim.proofs.cells.cell_ports.Goals as goal

pub overflow_add-first-2 : goal.overflow_add-first-2
overflow_add-first-2 c =
    let own = own_count_is c.args.net.now in
    let size = length-ports_of (netlist_of c.args.net.now) in
    let fits = c.ranges.count.fits in
    let le : c.len.result + c.len-2.result + c.len-3.result ≤ c.args.count = omega (arith, own, size, c.args.net.now.ins.ok.0, c.args.net.now.outs.ok.0, c.args.net.now.wires.ok.0) in
    search (rules, le)

pub prim_of_cell-prim-requires-clause-known : goal.prim_of_cell-prim-requires-clause-known
prim_of_cell-prim-requires-clause-known c =
    cell_is_primitive (netlist_of c.args.net.now) c.requires.valid c.loop-cell.cell-index (cell_of c.args.net.now.names c.cell-item.result)
    (cell_item c.args.net.now c.deref-cell-items.result.now c.loop-cell.cell-index c.cell-item.result c.deref-cell-items.ensures.value c.loop-cell-test.true c.cell-item.is)

pub prim_of_cell-prim-requires-clause-some : goal.prim_of_cell-prim-requires-clause-some
prim_of_cell-prim-requires-clause-some c =
    cell_has_prim (netlist_of c.args.net.now) c.requires.valid c.loop-cell.cell-index (cell_of c.args.net.now.names c.cell-item.result)
    (cell_item c.args.net.now c.deref-cell-items.result.now c.loop-cell.cell-index c.cell-item.result c.deref-cell-items.ensures.value c.loop-cell-test.true c.cell-item.is)

listed : (c : After-outputs) → IsCellPorts (netlist_of c.args.net.now) c.loop-cell.cell-index (cell_of c.args.net.now.names c.cell-item.result) record { prim = c.prim_of_cell-prim.result; first = c.loop-cell.first }
listed c = record { prim = c.prim_of_cell-prim.ensures.prim; made = c.prim_of_cell-prim.ensures.made; first = c.loop-cell.invariant.next }

next_is : (c : After-outputs) → c.loop-cell.first + (c.inputs.result + c.outputs.result) ≡ first_port (netlist_of c.args.net.now) (c.loop-cell.cell-index + 1)
next_is c =
    let at = cell_item c.args.net.now c.deref-cell-items.result.now c.loop-cell.cell-index c.cell-item.result c.deref-cell-items.ensures.value c.loop-cell-test.true c.cell-item.is in
    omega (arith, c.inputs.ensures, c.outputs.ensures, next_first (netlist_of c.args.net.now) c.loop-cell.cell-index c.loop-cell.first c.loop-cell.cells.items (cell_of c.args.net.now.names c.cell-item.result) record { prim = c.prim_of_cell-prim.result; first = c.loop-cell.first } c.loop-cell.invariant at (listed c))

fits : (c : After-outputs) → c.loop-cell.first + (c.inputs.result + c.outputs.result) ≤ c.args.count
fits c = omega (arith, next_is c, first_port-le (netlist_of c.args.net.now) (c.loop-cell.cell-index + 1), c.requires.count)

pub overflow_add-first-in-loop-cell : goal.overflow_add-first-in-loop-cell
overflow_add-first-in-loop-cell c =
    let range = c.ranges.count.fits in
    let le : c.inputs.result + c.outputs.result ≤ c.args.count = omega (arith, fits c) in
    search (rules, le)

pub overflow_add-first-in-loop-cell-2 : goal.overflow_add-first-in-loop-cell-2
overflow_add-first-in-loop-cell-2 c =
    let range = c.ranges.count.fits in
    let le = fits c in
    search (rules, le)

pub loop-cell-preserved : goal.loop-cell-preserved
loop-cell-preserved c =
    let at = cell_item c.args.net.now c.deref-cell-items.result.now c.loop-cell.cell-index c.cell-item.result c.deref-cell-items.ensures.value c.loop-cell-test.true c.cell-item.is in
    let more = listed_more (netlist_of c.args.net.now) c.loop-cell.cell-index c.loop-cell.first c.loop-cell.cells.items (cell_of c.args.net.now.names c.cell-item.result) record { prim = c.prim_of_cell-prim.result; first = c.loop-cell.first } c.loop-cell.invariant at (listed c) in
    rw (c.in_ok-push.ensures.items, c.inputs.ensures, c.outputs.ensures) more
