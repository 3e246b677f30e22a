use Rattle.std.proofs.Common.{◌≡◌, ◌+◌, ◌++◌, drop, map}
use Rattle.stim_read.specs.CycleText.{words_seen}
use Rattle.stim_read.specs.CycleRules.{memory_targets, sizes_of}
use Rattle.stim_read.specs.CycleRun.{load_of, load_seen}
use Rattle.stim_read.specs.inside.CycleWalk.{memories_fault}
use Rattle.stim_read.proofs.cycle_memories.loads.Given as goal

abbrev pub invariant-loop-index : goal.invariant-loop-index
invariant-loop-index l = record {
  fault : memories_fault (memory_targets l.mems) (sizes_of l.mems) (l.first + l.index) (map words_seen (drop l.index l.memories)) ≡ memories_fault (memory_targets l.mems) (sizes_of l.mems) l.first (map words_seen l.memories);
  loads : map load_seen l.loads.items ++ map (load_of (memory_targets l.mems)) (map words_seen (drop l.index l.memories))
      ≡ map (load_of (memory_targets l.mems)) (map words_seen l.memories);
}
