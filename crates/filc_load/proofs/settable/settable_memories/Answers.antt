use Rattle.std.proofs.Common.{◌∙◌}
use Rattle.net_core.specs.Netlist.{netlist_of, cell_of}
use Rattle.net_sim.proofs.CellLemmas.{cell_item}
use Rattle.filc_load.proofs.SettableLemmas.{memories_more, memories_same}
use Rattle.filc_load.proofs.settable.settable_memories.Goals as goal
use Rattle.filc_load.proofs.settable.settable_memories.Goals.{then-cell+in_ok-memory_shape+in_ok-push, else-cell}

pub loop-cell-preserved : goal.loop-cell-preserved
loop-cell-preserved c =
    let net = c.args.net.now in
    let i = c.loop-cell.cell-index in
    let line = cell_of net.names c.cell-item.result in
    let at = cell_item net c.deref-cell-items.result.now i c.cell-item.result c.deref-cell-items.ensures.value c.loop-cell-test.true c.cell-item.is in
    elim c.if-cell.branch [
      | then-cell+in_ok-memory_shape+in_ok-push w ↦
          let more = memories_more (netlist_of net).cells i line at c.loop-cell.memories.items c.loop-cell.invariant w.in_ok-memory_shape.field-0 w.if-cell.true w.in_ok-memory_shape.ensures in
          let pushed = w.in_ok-push.ensures.items in
          rw w.memories-is (pushed ∙ more)
      | else-cell w ↦
          let same = memories_same (netlist_of net).cells i line at c.loop-cell.memories.items c.loop-cell.invariant w.if-cell.false in
          rw w.memories-is same
    ]
