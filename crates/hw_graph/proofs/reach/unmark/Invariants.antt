use Rattle.std.proofs.Common.{◌≡◌, ℕ, true}
use Rattle.hw_graph.proofs.ReachLemmas.{StandsFrom}
use Rattle.hw_graph.specs.Walk.{is_seen}
use Rattle.hw_graph.proofs.reach.unmark.Given as goal

abbrev pub invariant-loop-port : goal.invariant-loop-port
invariant-loop-port l = (port : ℕ) → is_seen l.marks port ≡ true → StandsFrom l.port-index l.ports port
