use Rattle.std.proofs.Common.{◌≡◌, ◌++◌}
use Rattle.hw_names.specs.Name.{Text}
use Rattle.hw_prims.specs.State.{memory_words}
use Rattle.hw_prims.specs.declared.prim.Primitive.{Primitive}
use Rattle.net_core.specs.Netlist.{netlist_of}
use Rattle.net_sim.specs.Shown.{IsShown}
use Rattle.net_sim.specs.Sim.{states_of}
use Rattle.filc_report.specs.Rows.{memory_text}
use Rattle.filc_report.proofs.MemoryLemmas.{rest_of_words}
use Rattle.filc_calyx.proofs.memories.push_memory.Given as goal

-- the line goes on with the words from this one on
abbrev pub invariant-loop-at : goal.invariant-loop-at
invariant-loop-at l =
    let n = netlist_of l.sim.net in
    (cell : Text) (prim : Primitive) → IsShown n l.mem cell prim
    → l.text.items ++ rest_of_words (memory_words (states_of n l.sim.states cell prim)) l.at ≡ l.fn.text.items ++ memory_text l.name (memory_words (states_of n l.sim.states cell prim))
