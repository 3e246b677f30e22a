use Rattle.std.proofs.Common.{◌≡◌, map, take}
use Rattle.hw_cells.specs.declared.pairs.Start.{Start}
use Rattle.hw_cells.proofs.pairs.output_nodes.Given as goal

abbrev pub invariant-loop-start : goal.invariant-loop-start
invariant-loop-start l = l.nodes.items ≡ map (λ (start : Start). start.output.node) (take l.start-index l.starts)
