-- The tokens of a text.
use Rattle.std.specs.Prelude.{◌≡◌, ◌≢◌, ℕ, ◌-◌, List, [], ◌∷◌, length, map, slice_range}
use Rattle.hw_lex.specs.declared.token.Dialect.{Dialect}
use Rattle.hw_lex.specs.declared.token.Kind.{Kind}
use Rattle.hw_lex.specs.declared.token.Token.{Token}
use Rattle.hw_lex.specs.Word.{Stands}
use Rattle.hw_lex.specs.Gap.{Space, Gap}

-- the place of the byte at which the rest begins, in a text of this size; both in bytes
abbrev pub place : ℕ → List ℕ → ℕ
place size rest = size - length rest

-- after a gap the token stands at the front of the text, and then comes the rest
pub record Takes (dialect : Dialect) (size : ℕ) (text : List ℕ) (token : Token) (rest : List ℕ) : Type 0 where
  pub at : List ℕ
  pub gap : Gap text at
  pub stands : Stands dialect token.kind at rest
  pub from : token.span.from ≡ place size at
  pub to : token.span.to ≡ place size rest

-- these tokens, with gaps before, between and after them, stand at the front of the text, and then comes the rest
abbrev pub Cuts : Dialect → ℕ → List ℕ → List Token → List ℕ → Type 0
Cuts dialect size text [] rest = Gap text rest
Cuts dialect size text (token ∷ tokens) rest =
    (after : List ℕ) × Takes dialect size text token after × Cuts dialect size after tokens rest

-- these are the tokens of the text
abbrev pub AreTokens : Dialect → List ℕ → List Token → Type 0
AreTokens dialect text tokens = Cuts dialect (length text) text tokens []

-- neither a token, nor a blank nor a comment stands at the front of the text
pub record StartsNothing (dialect : Dialect) (text : List ℕ) : Type 0 where
  pub no_token : (kind : Kind) (rest : List ℕ) → Stands dialect kind text rest → ⊥
  pub no_space : (rest : List ℕ) → Space text rest → ⊥

-- the text is cut into tokens up to the byte at this place, where nothing starts
pub record FaultsAt (dialect : Dialect) (text : List ℕ) (at : ℕ) : Type 0 where
  pub tokens : List Token
  pub rest : List ℕ
  pub before : Cuts dialect (length text) text tokens rest
  pub more : rest ≢ []
  pub nothing : StartsNothing dialect rest
  pub place_is : at ≡ place (length text) rest

-- the bytes of a token
abbrev pub token_text : List ℕ → Token → List ℕ
token_text text token = slice_range text token.span.from token.span.to

-- the bytes of each token
abbrev pub token_texts : List ℕ → List Token → List (List ℕ)
token_texts text tokens = map (token_text text) tokens

-- what is known of a text that was cut: its language, its bytes, its tokens
pub record Lexed : Type 0 where
  pub dialect : Dialect
  pub source : List ℕ
  pub tokens : List Token
