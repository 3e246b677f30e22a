use Rattle.std.proofs.Common.{◌≡◌, ◌<◌, ℕ, Some, length, map, take, slice_get}
use Rattle.std.specs.Prelude.{filter}
use Rattle.std.specs.List.{flat_map}
use Rattle.hw_cells.specs.Cells.{is_below}
use Rattle.cal_ast.specs.Wires.{shown}
use Rattle.cal_wires.specs.Nodes.{Node, key_of, node_ports}
use Rattle.cal_loops.proofs.least_loop.full_names.Given as goal

-- the full names so far
abbrev pub invariant-loop-number : goal.invariant-loop-number
invariant-loop-number l = (node : ℕ → Node) → ((number : ℕ) → number < length l.ports.keys → slice_get l.ports.keys number ≡ Some (key_of (node number)))
    → l.names.items ≡ flat_map (λ (number : ℕ). map shown (node_ports (node number))) (filter (is_below (length l.ports.keys)) (take l.number-index l.numbers))
