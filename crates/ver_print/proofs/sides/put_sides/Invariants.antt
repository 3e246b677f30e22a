use Rattle.std.proofs.Common.{◌≡◌, ◌++◌, replicate}
use Rattle.ver_print.proofs.sides.put_sides.Given as goal

abbrev pub invariant-loop : goal.invariant-loop
invariant-loop l = l.sides.items ≡ l.initial.sides.items ++ replicate l.counter l.writable
