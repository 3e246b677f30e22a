use Rattle.std.proofs.Common.{◌≤◌, drop, flat_map}
use Rattle.net_core.specs.Netlist.{netlist_of}
use Rattle.net_sim.specs.Sim.{states_of}
use Rattle.filc_report.specs.Rows.{shown_text, memories_text}
use Rattle.filc_report.proofs.MemoryLemmas.{AreLeft}
use Rattle.filc_stop.proofs.SinkLemmas.{PassedUpTo}
use Rattle.filc_report.proofs.memories.push_memories.Given as goal

-- the shown memories of the cells so far were passed on
abbrev pub invariant-loop-cell : goal.invariant-loop-cell
invariant-loop-cell g l =
    let sink = g.O.Sink in
    let n = netlist_of l.net in
    let states = states_of n l.sim.states in
    record {
      left : AreLeft n l.mem l.cell-index;
      counted : l.mem ≤ l.cell-index;
      passed : PassedUpTo (sink.written l.fn.out) l.fn.held (sink.written l.out) l.held (flat_map (shown_text states) (drop l.cell-index n.cells)) (memories_text n states);
      never_falls : sink.faults l.fn.out ≤ sink.faults l.out;
    }
