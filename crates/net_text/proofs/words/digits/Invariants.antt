use Rattle.std.proofs.Common.{◌≡◌, drop}
use Rattle.net_text.specs.inside.ReadWords.{digits_after}
use Rattle.net_text.proofs.words.digits.Given as goal

abbrev pub invariant-loop-byte : goal.invariant-loop-byte
invariant-loop-byte l = digits_after l.value (drop l.byte-index l.word) ≡ digits_after 0 l.word
