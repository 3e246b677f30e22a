use Rattle.std.proofs.Common.{◌≡◌, ℕ, ◌<◌, get_or}
use Rattle.hw_graph.proofs.least_loop.has_number.Given as goal

abbrev pub invariant-loop-port : goal.invariant-loop-port
invariant-loop-port l = (k : ℕ) → k < l.port-index → get_or l.numbers (get_or l.ports k 0) 0 ≡ l.number → ⊥
