-- The decimal digits of a number, however large it is. This project's.
use Rattle.std.specs.Prelude.{ℕ, zero, suc, ◌+◌, ◌/◌, ◌%◌, nat_lt, [], ◌∷◌, ◌++◌, if◌then◌else◌}
use Rattle.hw_names.specs.Name.{Text}

-- the digits of a number that has at most so many
abbrev pub digits_within : ℕ → ℕ → Text
digits_within zero n = []
digits_within (suc more) n = if nat_lt n 10 then (48 + n) ∷ [] else digits_within more (n / 10) ++ (48 + n % 10) ∷ []

-- a number has fewer digits than the number after the next
unfoldable pub numeral : ℕ → Text
numeral n = digits_within (n + 1) n
