-- What a text of Filament with parameters spells, and how reading ends where it spells nothing or keeps no limit. Filament, PLDI 2023, in this
-- project's profile, with parameters, which are this project's.
use Rattle.std.specs.Prelude.{◌≡◌, ℕ, ◌<◌, ◌≤◌, List}
use Rattle.hw_names.specs.Name.{Text}
use Rattle.hw_lex.specs.declared.token.Dialect.TheVariants.{Filp}
use Rattle.hw_lex.specs.declared.token.Token.{Token}
use Rattle.hw_lex.specs.Cut.{AreTokens, FaultsAt, token_texts}
use Rattle.hw_lex.specs.Nesting.{nesting_of}
use Rattle.hw_grammar.specs.TextPlace.{SpellsText, RefusedText}
use Rattle.hw_limits.specs.declared.limits.TheConstants.{MOST_NESTING}
use Rattle.par_parse.specs.declared.parse.FilpTextEnd.{FilpTextEnd}
use Rattle.par_parse.specs.declared.parse.FilpTextEnd.TheVariants as ends
use Rattle.par_parse.specs.Tree.{DesignTree}
use Rattle.par_parse.specs.Grammar.{IsFile}

-- the text spells the design, whatever numbers its names have
abbrev pub SpellsDesign : List ℕ → DesignTree → Type 0
SpellsDesign text design = (names : List Text) × SpellsText Filp (IsFile names) names text design

-- the text has tokens, and is refused at this byte: that of the first token such that no text of the grammar has the same tokens
-- up to and including it, or the text's length where its tokens are a proper beginning of those of such a text
abbrev pub IsRefusedAt : List ℕ → ℕ → Type 0
IsRefusedAt text at = (names : List Text) × RefusedText Filp (IsFile names) names text at

-- the text has tokens, and so deep do brackets stand in one another
abbrev pub IsNested : List ℕ → ℕ → Type 0
IsNested text depth = (tokens : List Token) × AreTokens Filp text tokens × (depth ≡ nesting_of (token_texts text tokens))

-- the text has tokens, and its brackets keep the limit
abbrev pub KeepsNesting : List ℕ → Type 0
KeepsNesting text = (depth : ℕ) × IsNested text depth × (depth ≤ MOST_NESTING)

-- ---- why a text has no design

-- what reading the tokens of a text tells: where the grammar refuses it
abbrev pub GrammarEnds : List ℕ → FilpTextEnd → Type 0
GrammarEnds text (ends.Grammar at) = IsRefusedAt text at
GrammarEnds text ends.Memory = Unit {0}
GrammarEnds text _ = ⊥

-- this is the end: the causes come in this order, so each asks that those before it are not met. Memory can be wanting at any time
abbrev pub EndsBy : List ℕ → FilpTextEnd → Type 0
EndsBy text (ends.Token at) = FaultsAt Filp text at
EndsBy text (ends.Nesting count) = IsNested text count × (MOST_NESTING < count)
EndsBy text (ends.Grammar at) = KeepsNesting text × IsRefusedAt text at
EndsBy text ends.Memory = Unit {0}
