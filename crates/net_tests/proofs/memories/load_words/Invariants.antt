use Rattle.std.proofs.Common.{◌≡◌, length}
use Rattle.net_sim.specs.declared.sim.Phase.TheVariants.{Fresh}
use Rattle.net_tests.proofs.memories.load_words.Given as goal

abbrev pub invariant-loop-mem : goal.invariant-loop-mem
invariant-loop-mem g l = (l.sim.net ≡ l.fn.sim.net) × (l.sim.phase ≡ Fresh) × (length l.sim.values ≡ length l.fn.sim.values)
