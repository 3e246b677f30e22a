-- Refused texts, told by what is left of their terminals.
use Rattle.std.specs.Prelude.{ℕ, ◌-◌, ◌≤◌, List, length}
use Rattle.hw_lex.specs.declared.token.Dialect.TheVariants.{Filp}
use Rattle.hw_lex.specs.declared.token.Token.{Token}
use Rattle.hw_lex.specs.Cut.{AreTokens}
use Rattle.hw_grammar.specs.declared.terminal.Terminal.{Terminal}
use Rattle.hw_grammar.specs.TextPlace.{byte_of}
use Rattle.par_parse.specs.Spelling.{IsRefusedAt}

-- the text has tokens and is refused where these of its terminals are left: at the byte of the first of them, or at its end
abbrev pub IsRefusedFrom : List ℕ → List Terminal → Type 0
IsRefusedFrom text rest =
    (tokens : List Token) × AreTokens Filp text tokens × (length rest ≤ length tokens)
    × IsRefusedAt text (byte_of text tokens (length tokens - length rest))
