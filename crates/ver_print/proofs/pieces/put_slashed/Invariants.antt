use Rattle.std.proofs.Common.{◌≡◌, ◌++◌, take}
use Rattle.ver_print.specs.Words.{slashed}
use Rattle.ver_print.proofs.pieces.put_slashed.Given as goal

abbrev pub invariant-loop-byte : goal.invariant-loop-byte
invariant-loop-byte l = l.out.items ≡ l.initial.out.items ++ slashed (take l.byte-index l.name)
