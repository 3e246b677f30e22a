use Rattle.std.proofs.Common.{◌≡◌, ◌≤◌, ◌++◌, drop, flat_map}
use Rattle.net_core.specs.Netlist.{netlist_of}
use Rattle.net_sim.specs.Sim.{states_of}
use Rattle.filc_report.specs.Rows.{memories_text, shown_text}
use Rattle.filc_report.proofs.MemoryLemmas.{AreLeft}
use Rattle.filc_calyx.proofs.memories.push_memories.Given as goal

-- the text goes on with the shown memories of the cells from this one on
abbrev pub invariant-loop-cell : goal.invariant-loop-cell
invariant-loop-cell l =
    let n = netlist_of l.net in
    let states = states_of n l.sim.states in
    record {
      left : AreLeft n l.mem l.cell-index;
      counted : l.mem ≤ l.cell-index;
      text : l.text.items ++ flat_map (shown_text states) (drop l.cell-index n.cells) ≡ l.fn.text.items ++ memories_text n states;
    }
