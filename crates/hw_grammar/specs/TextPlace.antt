-- What a text spells, and the byte at which it is refused. This project's own.
use Rattle.std.specs.Prelude.{◌≡◌, ℕ, List, length, slice_get, unwrap_or}
use Rattle.std.specs.Option.{option_map}
use Rattle.hw_names.specs.Name.{Text}
use Rattle.hw_lex.specs.declared.token.Dialect.{Dialect}
use Rattle.hw_lex.specs.declared.token.Token.{Token}
use Rattle.hw_lex.specs.Cut.{AreTokens}
use Rattle.hw_grammar.specs.declared.terminal.Terminal.{Terminal}
use Rattle.hw_grammar.specs.Grammar.{Lang}
use Rattle.hw_grammar.specs.Place.{Spells, Place}
use Rattle.hw_grammar.specs.Terminals.{AreTerminals}

-- the first byte of the token with number k, and the text's length past the last token
abbrev pub byte_of : List ℕ → List Token → ℕ → ℕ
byte_of source tokens k = unwrap_or (option_map (λ token. token.span.from) (slice_get tokens k)) (length source)

-- a text as terminals, with these names
pub record IsLexed (dialect : Dialect) (names : List Text) (source : List ℕ) (tokens : List Token) (ts : List Terminal) : Type 0 where
  pub tokens_are : AreTokens dialect source tokens
  pub terminals_are : AreTerminals dialect names source tokens ts

-- the text spells the value, in which names are told by their numbers in this list
abbrev pub SpellsText : {A : Type 0} → Dialect → Lang A → List Text → List ℕ → A → Type 0
SpellsText dialect L names source a = (tokens : List Token) × (ts : List Terminal) × IsLexed dialect names source tokens ts × Spells L ts a

-- the text has tokens and is refused at this byte: that of its refused token, or its length where its tokens run out
abbrev pub RefusedText : {A : Type 0} → Dialect → Lang A → List Text → List ℕ → ℕ → Type 0
RefusedText dialect L names source at =
    (tokens : List Token) × (ts : List Terminal) × IsLexed dialect names source tokens ts × (k : ℕ) × Place L ts k × (at ≡ byte_of source tokens k)
