use Rattle.std.proofs.Common.{◌≡◌, None}
use Rattle.std.specs.Prelude.{replicate}
use Rattle.cal_loops.proofs.first_loop.none_known.Given as goal

abbrev pub invariant-loop : goal.invariant-loop
invariant-loop l = l.insides.items ≡ replicate l.counter None
