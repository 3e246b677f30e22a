use Rattle.std.proofs.Common.{◌≡◌, [], length}
use Rattle.hw_graph.specs.Walk.{IsWalk}
use Rattle.hw_graph.proofs.components.number_by.Given as goal

abbrev pub invariant-loop-place : goal.invariant-loop-place
invariant-loop-place l =
    record {
      all : length l.numbers.items ≡ length l.readers;
      walk : IsWalk l.readers l.walk;
      path : l.walk.path.items ≡ [];
    }
