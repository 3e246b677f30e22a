-- What a list of terminals spells, and the place at which it is refused. This project's own.
use Rattle.std.specs.Prelude.{◌≡◌, ℕ, ◌+◌, ◌<◌, List, [], ◌++◌, length, take}
use Rattle.hw_grammar.specs.declared.terminal.Terminal.{Terminal}
use Rattle.hw_grammar.specs.Grammar.{Lang}

-- the terminals, all of them, spell the value
abbrev pub Spells : {A : Type 0} → Lang A → List Terminal → A → Type 0
Spells L ts a = L ts a []

-- some terminals that spell a value begin with the first n of these
abbrev pub Viable : {A : Type 0} → Lang A → List Terminal → ℕ → Type 0
Viable L ts n = (whole : List Terminal) × (a : _) × Spells L whole a × (more : List Terminal) × (whole ≡ take n ts ++ more)

-- the terminals are refused at the one with number k, or at their end where k is their number: they spell nothing, the
-- first k can be gone on with, and no more of them
abbrev pub Place : {A : Type 0} → Lang A → List Terminal → ℕ → Type 0
Place L ts k = Viable L ts k × ((Viable L ts (k + 1) × (k < length ts)) → ⊥) × ((a : _) → Spells L ts a → ⊥)
