use Rattle.std.proofs.Common.{◌≡◌, ◌++◌, replicate}
use Rattle.ver_print.proofs.guards.put_closed.Given as goal

abbrev pub invariant-loop : goal.invariant-loop
invariant-loop l = l.out.items ≡ l.initial.out.items ++ replicate l.counter 41
