use Rattle.std.proofs.Common.{◌≤◌}
use Rattle.hw_names.specs.Name.{Text}
use Rattle.hw_prims.specs.State.{memory_words}
use Rattle.hw_prims.specs.declared.prim.Primitive.{Primitive}
use Rattle.net_core.specs.Netlist.{netlist_of}
use Rattle.net_sim.specs.Shown.{IsShown}
use Rattle.net_sim.specs.Sim.{states_of}
use Rattle.filc_report.specs.Rows.{memory_text}
use Rattle.filc_report.proofs.MemoryLemmas.{rest_of_words}
use Rattle.filc_stop.proofs.SinkLemmas.{PassedUpTo}
use Rattle.filc_report.proofs.memories.push_memory.Given as goal

-- the line was passed on up to this word
abbrev pub invariant-loop-at : goal.invariant-loop-at
invariant-loop-at g l =
    let sink = g.O.Sink in
    let n = netlist_of l.sim.net in
    record {
      passed : (cell : Text) (prim : Primitive) → IsShown n l.mem cell prim
          → PassedUpTo (sink.written l.fn.out) l.fn.held (sink.written l.out) l.held
          (rest_of_words (memory_words (states_of n l.sim.states cell prim)) l.at) (memory_text l.name (memory_words (states_of n l.sim.states cell prim)));
      never_falls : sink.faults l.fn.out ≤ sink.faults l.out;
    }
