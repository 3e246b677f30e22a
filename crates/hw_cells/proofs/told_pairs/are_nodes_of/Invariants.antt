use Rattle.std.proofs.Common.{◌≡◌, map, take}
use Rattle.hw_cells.specs.declared.cell.Pin.{Pin}
use Rattle.hw_cells.proofs.told_pairs.are_nodes_of.Given as goal

abbrev pub invariant-loop-place : goal.invariant-loop-place
invariant-loop-place l = take l.place l.nodes ≡ map (λ (pin : Pin). pin.node) (take l.place l.pins)
