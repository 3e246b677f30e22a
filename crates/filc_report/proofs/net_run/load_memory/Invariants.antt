use Rattle.std.proofs.Common.{◌≡◌, ℕ, List, take}
use Rattle.hw_bits.specs.Values.{values_of}
use Rattle.hw_names.specs.Name.{Text}
use Rattle.net_core.specs.Netlist.{netlist_of}
use Rattle.net_sim.specs.Sim.{IsLoadedSim}
use Rattle.net_sim.specs.declared.sim.Phase.TheVariants.{Fresh}
use Rattle.filc_report.proofs.LoadedLemmas.{after_words}
use Rattle.filc_report.proofs.net_run.load_memory.Given as goal

-- the words so far are loaded
abbrev pub invariant-loop-at : goal.invariant-loop-at
invariant-loop-at l =
    (l.sim.net ≡ l.initial.sim.net)
    × (l.sim.phase ≡ Fresh)
    × ((loads : Text → List ℕ) → IsLoadedSim l.initial.sim.net loads l.initial.sim → IsLoadedSim l.initial.sim.net (after_words (netlist_of l.initial.sim.net) l.load.mem (take l.at (values_of l.load.words.items)) loads) l.sim)
