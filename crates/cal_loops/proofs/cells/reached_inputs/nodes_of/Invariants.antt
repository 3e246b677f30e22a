use Rattle.std.proofs.Common.{◌<◌, ℕ, All, length}
use Rattle.cal_loops.proofs.cells.reached_inputs.nodes_of.Given as goal

-- so far all are nodes of the graph
abbrev pub invariant-loop-port : goal.invariant-loop-port
invariant-loop-port l = All (λ (node : ℕ). node < length l.graph.reads) l.nodes.items
