use Rattle.std.proofs.Common.{arith, subst}
use Rattle.cal_place.specs.Around.{comp_at, design_at}
use Rattle.cal_loops.proofs.CellPinLemmas.{TellsCell, ports_all, ports_more, ports_none, ports_same}
use Rattle.cal_loops.proofs.cells.cell_ports.Goals.{in-Some+in_ok-push, in_default}
use Rattle.cal_loops.proofs.cells.cell_ports.Goals as goal

pub loop-node-init : goal.loop-node-init
loop-node-init c = rw c.new-entries.ensures.items (ports_none (design_at c.args.place.now) (comp_at c.args.place.now) c.args.graph.now)

pub loop-node-preserved : goal.loop-node-preserved
loop-node-preserved c =
    let d = design_at c.args.place.now in
    let own = comp_at c.args.place.now in
    let g = c.args.graph.now in
    let node = c.loop-node.node in
    let entries = c.loop-node.entries.items in
    elim c.match-cell_number.branch [
      | in-Some+in_ok-push w ↦
          rw (w.entries-is, w.in_ok-push.ensures.items)
          (ports_more d own g node entries w.in-Some.number (subst (TellsCell d own g node) w.in-Some.is c.cell_number.ensures) c.loop-node.invariant)
      | in_default w ↦ rw w.entries-is (ports_same d own g node entries (subst (TellsCell d own g node) w.in_default.is c.cell_number.ensures) c.loop-node.invariant)
    ]

pub returns : goal.returns
returns c =
    ports_all (design_at c.args.place.now) (comp_at c.args.place.now) c.args.graph.now c.loop-node.node c.loop-node.entries.items (omega (arith, c.loop-node-test.false, c.len-node-end.ensures.len)) c.loop-node.invariant
