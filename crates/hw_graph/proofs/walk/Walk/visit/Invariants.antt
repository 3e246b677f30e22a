use Rattle.std.proofs.Common.{ℕ, ◌<◌, length}
use Rattle.std.specs.Prelude.{All}
use Rattle.hw_graph.specs.Walk.{IsWalk, work_left}
use Rattle.hw_graph.proofs.walk.Walk.visit.Given as goal

abbrev pub invariant-loop-top : goal.invariant-loop-top
invariant-loop-top l =
    record {
      walk : IsWalk l.reads l.self;
      done : All (λ (member : ℕ). member < length l.reads) l.done.items;
    }

abbrev pub decreases-loop-top : goal.decreases-loop-top
decreases-loop-top l = work_left l.self
