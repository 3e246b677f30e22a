-- What a Calyx text spells, and how reading ends where it spells nothing or keeps no limit. Calyx, ASPLOS 2021, in this project's profile.
use Rattle.std.specs.Prelude.{◌≡◌, ℕ, ◌<◌, ◌≤◌, Bool, true, false, List, [], ◌∷◌, drop}
use Rattle.hw_names.specs.Name.{Text}
use Rattle.hw_lex.specs.declared.token.Dialect.TheVariants.{Cal}
use Rattle.hw_lex.specs.declared.token.Token.{Token}
use Rattle.hw_lex.specs.Cut.{AreTokens, FaultsAt, token_texts}
use Rattle.hw_lex.specs.Nesting.{nesting_of}
use Rattle.hw_grammar.specs.declared.sort.Sort.{Sort}
use Rattle.hw_grammar.specs.declared.sort.Sort.TheVariants.{Static, Ref, Repeat, Primitive, Extern, Metadata}
use Rattle.hw_grammar.specs.declared.terminal.Terminal.{Terminal}
use Rattle.hw_grammar.specs.Sort.{has}
use Rattle.hw_grammar.specs.Place.{Place}
use Rattle.hw_grammar.specs.TextPlace.{IsLexed, SpellsText, byte_of}
use Rattle.cal_ast.specs.Tree.{Design}
use Rattle.hw_limits.specs.declared.limits.TheConstants.{MOST_NESTING}
use Rattle.cal_parse.specs.declared.parse.CalTextEnd.{CalTextEnd}
use Rattle.cal_parse.specs.declared.parse.CalTextEnd.TheVariants as ends
use Rattle.cal_parse.specs.Grammar.{IsFile}

-- the text spells the design, whatever numbers its names have
abbrev pub SpellsDesign : List ℕ → Design → Type 0
SpellsDesign text design = (names : List Text) × SpellsText Cal (IsFile names) names text design

-- the text has tokens, and is refused at this byte: that of the first token such that no text of the grammar has the same tokens
-- up to and including it, or the text's length where its tokens are a proper beginning of those of such a text
pub record IsRefusedAt (text : List ℕ) (at : ℕ) : Type 0 where
  pub names : List Text
  pub tokens : List Token
  pub terminals : List Terminal
  pub lexed : IsLexed Cal names text tokens terminals
  -- the number of the refused token
  pub place : ℕ
  pub refused : Place (IsFile names) terminals place
  pub byte : at ≡ byte_of text tokens place

-- `static`, `ref`, `repeat`, `primitive`, `extern` and `metadata`: words of Calyx that this profile leaves out
abbrev pub left_out : List Sort
left_out = Static ∷ Ref ∷ Repeat ∷ Primitive ∷ Extern ∷ Metadata ∷ []

-- whether the refused token is such a word
abbrev pub is_left_out : {text : List ℕ} {at : ℕ} → IsRefusedAt text at → Bool
is_left_out refusal = has left_out (drop refusal.place refusal.terminals)

-- the text has tokens, and so deep do brackets stand in one another
abbrev pub IsNested : List ℕ → ℕ → Type 0
IsNested text depth = (tokens : List Token) × AreTokens Cal text tokens × (depth ≡ nesting_of (token_texts text tokens))

-- the text has tokens, and its brackets keep the limit
abbrev pub KeepsNesting : List ℕ → Type 0
KeepsNesting text = (depth : ℕ) × IsNested text depth × (depth ≤ MOST_NESTING)

-- what reading the tokens of a text tells: where the grammar refuses it, and whether at a word that is left out
abbrev pub GrammarEnds : List ℕ → CalTextEnd → Type 0
GrammarEnds text (ends.Grammar at) = (refusal : IsRefusedAt text at) × (is_left_out refusal ≡ false)
GrammarEnds text (ends.LeftOut at) = (refusal : IsRefusedAt text at) × (is_left_out refusal ≡ true)
GrammarEnds text ends.Memory = Unit {0}
GrammarEnds text _ = ⊥

-- this is the end: the causes come in this order, so each asks that those before it are not met. Memory can be wanting at any time
abbrev pub EndsBy : List ℕ → CalTextEnd → Type 0
EndsBy text (ends.Token at) = FaultsAt Cal text at
EndsBy text (ends.Nesting count) = IsNested text count × (MOST_NESTING < count)
EndsBy text (ends.Grammar at) = KeepsNesting text × GrammarEnds text (ends.Grammar at)
EndsBy text (ends.LeftOut at) = KeepsNesting text × GrammarEnds text (ends.LeftOut at)
EndsBy text ends.Memory = Unit {0}
