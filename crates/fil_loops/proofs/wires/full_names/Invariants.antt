use Rattle.std.proofs.Common.{◌≡◌, ℕ, [], length, map, take, get_or}
use Rattle.std.specs.Prelude.{filter}
use Rattle.hw_cells.specs.Cells.{is_below}
use Rattle.fil_loops.proofs.wires.full_names.Given as goal

-- the names of the ports so far
abbrev pub invariant-loop-node : goal.invariant-loop-node
invariant-loop-node l = l.words.items ≡ map (λ (port : ℕ). get_or l.ports.names port []) (filter (is_below (length l.ports.names)) (take l.node-index l.nodes))
