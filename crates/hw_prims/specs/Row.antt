-- Rows: the value of each port in one clock cycle. This project's vocabulary for runs of every language.
use Rattle.std.specs.Prelude.{ℕ, List, map}

-- a name, or names joined by dots, as bytes
abbrev pub Text : Type 0
Text = List ℕ

-- the value of each port, by its full name, in one clock cycle
abbrev pub Row : Type 0
Row = Text → ℕ

-- a row for each cycle, counted from 0
abbrev pub Trace : Type 0
Trace = ℕ → Row

-- the values of pins whose full names `at` gives
abbrev pub values_at : Row → (Text → Text) → List Text → List ℕ
values_at row at pins = map (λ pin. row (at pin)) pins
