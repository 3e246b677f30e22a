use Rattle.std.proofs.Common.{◌≡◌, drop, length}
use Rattle.hw_names.specs.inside.Hashing.{packed}
use Rattle.hw_names.proofs.text.pack.Given as goal

abbrev pub invariant-loop-byte : goal.invariant-loop-byte
invariant-loop-byte l = packed l.word (drop l.byte-index l.bytes) ≡ packed (length l.bytes) l.bytes
