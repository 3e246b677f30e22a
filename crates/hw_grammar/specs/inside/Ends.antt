-- Where terminals are refused.
use Rattle.std.specs.Prelude.{◌-◌, List, length}
use Rattle.hw_grammar.specs.declared.terminal.Terminal.{Terminal}
use Rattle.hw_grammar.specs.declared.end.ReadEnd.{ReadEnd}
use Rattle.hw_grammar.specs.declared.end.ReadEnd.TheVariants as ends
use Rattle.hw_grammar.specs.Grammar.{Lang}
use Rattle.hw_grammar.specs.Place.{Place}

-- there was no memory, or the terminals from the refused place on are given
abbrev pub RefusedAt : {A : Type 0} → Lang A → List Terminal → ReadEnd → Type 0
RefusedAt L ts ends.Memory = Unit {0}
RefusedAt L ts (ends.Refused bad) = Place L ts (length ts - length bad.now)
