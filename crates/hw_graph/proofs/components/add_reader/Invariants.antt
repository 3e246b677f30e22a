use Rattle.std.proofs.Common.{ℕ, ◌<◌}
use Rattle.std.specs.Prelude.{All}
use Rattle.hw_graph.specs.inside.Components.{AreBelow}
use Rattle.hw_graph.proofs.components.add_reader.Given as goal

abbrev pub invariant-loop-port : goal.invariant-loop-port
invariant-loop-port l =
    (count : ℕ) → l.reader < count → All (λ (port : ℕ). port < count) l.ports → AreBelow count l.fn.entries.items → AreBelow count l.entries.items
