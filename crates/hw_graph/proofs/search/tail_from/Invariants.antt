use Rattle.std.proofs.Common.{◌≡◌, ◌-◌, ℕ, ◌<◌, get_or, length}
use Rattle.hw_graph.proofs.search.tail_from.Given as goal

abbrev pub invariant-loop-place : goal.invariant-loop-place
invariant-loop-place l = (k : ℕ) → k < l.place → get_or l.path k 0 ≡ l.port → ⊥

abbrev pub decreases-loop-place : goal.decreases-loop-place
decreases-loop-place l = length l.path - l.place
