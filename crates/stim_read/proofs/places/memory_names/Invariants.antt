use Rattle.std.proofs.Common.{◌≡◌, take, map}
use Rattle.net_core.specs.declared.stimulus.MemShape.{MemShape}
use Rattle.stim_read.proofs.places.memory_names.Given as goal

abbrev pub invariant-loop-shape : goal.invariant-loop-shape
invariant-loop-shape l = l.names ≡ take l.shape-index (map (λ (m : MemShape). m.name) l.mems)
