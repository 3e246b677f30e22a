use Rattle.std.proofs.Common.{◌≡◌, ◌<◌, ◌^◌, drop}
use Rattle.hw_lex.specs.Number.{value_from, value_in}
use Rattle.hw_lex.proofs.number.Base.value.Given as goal

abbrev pub invariant-loop-digit : goal.invariant-loop-digit
invariant-loop-digit l =
    (value_from l.self l.value (drop l.digit-index l.digits) ≡ value_in l.self l.digits) × (l.value < 2 ^ 128)
