use Rattle.std.proofs.Common.{◌≡◌, ◌<◌, ℕ, [], length}
use Rattle.std.specs.Prelude.{All}
use Rattle.hw_graph.specs.Walk.{IsWalk}
use Rattle.hw_graph.proofs.components.order_of_return.Given as goal

abbrev pub invariant-loop-port : goal.invariant-loop-port
invariant-loop-port l =
    record {
      walk : IsWalk l.reads l.walk;
      path : l.walk.path.items ≡ [];
      order : All (λ (port : ℕ). port < length l.reads) l.order.items;
    }
