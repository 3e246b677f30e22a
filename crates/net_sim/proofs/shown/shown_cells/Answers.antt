use Rattle.std.proofs.Common.{length, ap, arith}
use Rattle.std.proofs.lemmas.List.{length-map}
use Rattle.net_core.specs.Netlist.{netlist_of, cell_of}
use Rattle.net_sim.proofs.CellLemmas.{cell_item}
use Rattle.net_sim.proofs.ShownLemmas.{shown_more, shown_skip, shown_all}
use Rattle.net_sim.proofs.shown.shown_cells.Goals.{then-cell+in_ok-push, else-cell}
use Rattle.net_sim.proofs.shown.shown_cells.Goals as goal

pub loop-number-preserved : goal.loop-number-preserved
loop-number-preserved c =
    let net = c.args.net.now in
    let line = cell_of net.names c.cell-item.result in
    let at = cell_item net c.deref-cell-items.result.now c.loop-number.number c.cell-item.result c.deref-cell-items.ensures.value c.loop-number-test.true c.cell-item.is in
    elim c.if-cell.branch [
      | then-cell+in_ok-push w ↦ rw (w.shown-is, w.in_ok-push.ensures.items) (shown_more (netlist_of net) c.loop-number.number c.loop-number.shown.items line c.loop-number.invariant at w.if-cell.true)
      | else-cell w ↦ rw w.shown-is (shown_skip (netlist_of net) c.loop-number.number c.loop-number.shown.items line c.loop-number.invariant at w.if-cell.false)
    ]

pub returns : goal.returns
returns c =
    let net = c.args.net.now in
    shown_all (netlist_of net) c.loop-number.number c.loop-number.shown.items (omega (arith, c.loop-number-test.false, ap length c.deref-cell-items.ensures.value, length-map net.cells.items (cell_of net.names))) c.loop-number.invariant
