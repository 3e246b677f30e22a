use Rattle.std.proofs.Common.{◌≡◌, ℕ, List, map, take}
use Rattle.hw_names.specs.Name.{Text}
use Rattle.net_core.specs.Netlist.{netlist_of}
use Rattle.net_sim.specs.Sim.{IsLoadedSim}
use Rattle.net_sim.specs.declared.sim.Phase.TheVariants.{Fresh}
use Rattle.stim_read.specs.CycleRun.{load_seen}
use Rattle.filc_load.specs.Given.{after_loads}
use Rattle.filc_report.proofs.net_run.load_memories.Given as goal

-- the loads so far are in place
abbrev pub invariant-loop-load : goal.invariant-loop-load
invariant-loop-load l =
    (l.sim.net ≡ l.initial.sim.net)
    × (l.sim.phase ≡ Fresh)
    × ((before : Text → List ℕ) → IsLoadedSim l.initial.sim.net before l.initial.sim → IsLoadedSim l.initial.sim.net (after_loads (netlist_of l.initial.sim.net) (map load_seen (take l.load-index l.loads)) before) l.sim)
