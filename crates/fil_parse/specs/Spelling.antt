-- What a Filament text spells, and how reading ends where it spells nothing or keeps no limit. Filament, PLDI 2023, in this project's profile.
use Rattle.std.specs.Prelude.{◌≡◌, ℕ, ◌<◌, ◌≤◌, Bool, nat_lt, List, [], ◌∷◌, ◌++◌, map, find, flat_map, Option, Some}
use Rattle.hw_names.specs.Name.{Text}
use Rattle.hw_lex.specs.declared.token.Dialect.TheVariants.{Fil}
use Rattle.hw_lex.specs.declared.token.Token.{Token}
use Rattle.hw_lex.specs.Cut.{AreTokens, FaultsAt, token_texts}
use Rattle.hw_lex.specs.Nesting.{nesting_of}
use Rattle.hw_grammar.specs.TextPlace.{SpellsText, RefusedText}
use Rattle.fil_ast.specs.Tree.{TimeAt, Event, DataPort, Statement, New, Call, Both, Connect, Component, Design}
use Rattle.hw_limits.specs.declared.limits.TheConstants.{MOST_NESTING, MOST_OFFSET}
use Rattle.fil_parse.specs.declared.parse.FilTextEnd.{FilTextEnd}
use Rattle.fil_parse.specs.declared.parse.FilTextEnd.TheVariants as ends
use Rattle.fil_parse.specs.Grammar.{IsFile}

-- the text spells the design, whatever numbers its names have
abbrev pub SpellsDesign : List ℕ → Design → Type 0
SpellsDesign text design = (names : List Text) × SpellsText Fil (IsFile names) names text design

-- the text has tokens, and is refused at this byte: that of the first token such that no text of the grammar has the same tokens
-- up to and including it, or the text's length where its tokens are a proper beginning of those of such a text
abbrev pub IsRefusedAt : List ℕ → ℕ → Type 0
IsRefusedAt text at = (names : List Text) × RefusedText Fil (IsFile names) names text at

-- the text has tokens, and so deep do brackets stand in one another
abbrev pub IsNested : List ℕ → ℕ → Type 0
IsNested text depth = (tokens : List Token) × AreTokens Fil text tokens × (depth ≡ nesting_of (token_texts text tokens))

-- the text has tokens, and its brackets keep the limit
abbrev pub KeepsNesting : List ℕ → Type 0
KeepsNesting text = (depth : ℕ) × IsNested text depth × (depth ≤ MOST_NESTING)

-- ---- the numbers after `+` and the delays, in text order; 0 where there is no `+`

abbrev pub time_offsets : List TimeAt → List ℕ
time_offsets times = map (λ (t : TimeAt). t.plus) times

abbrev pub port_offsets : DataPort → List ℕ
port_offsets p = p.from.plus ∷ p.to.plus ∷ []

abbrev pub statement_offsets : Statement → List ℕ
statement_offsets (New name made params) = []
statement_offsets (Call name inst gives) = time_offsets gives.times
statement_offsets (Both name made params gives) = time_offsets gives.times
statement_offsets (Connect output value) = []

abbrev pub component_offsets : Component → List ℕ
component_offsets c =
    map (λ (e : Event). e.delay) c.events ++ (flat_map port_offsets c.ins ++ (flat_map port_offsets c.outs ++ flat_map statement_offsets c.body))

abbrev pub is_large : ℕ → Bool
is_large offset = nat_lt MOST_OFFSET offset

-- the first of them that is too large
abbrev pub first_large : Design → Option ℕ
first_large design = find is_large (flat_map component_offsets design)

-- ---- why a text has no design

-- this is the end: the causes come in this order, so each asks that those before it are not met. Memory can be wanting at any time
abbrev pub EndsBy : List ℕ → FilTextEnd → Type 0
EndsBy text (ends.Token at) = FaultsAt Fil text at
EndsBy text (ends.Nesting count) = IsNested text count × (MOST_NESTING < count)
EndsBy text (ends.Grammar at) = KeepsNesting text × IsRefusedAt text at
EndsBy text (ends.Offset count) = KeepsNesting text × ((design : Design) × SpellsDesign text design × (first_large design ≡ Some count))
EndsBy text ends.Memory = Unit {0}

-- what reading the tokens of a text tells: where the grammar refuses it
abbrev pub GrammarEnds : List ℕ → FilTextEnd → Type 0
GrammarEnds text (ends.Grammar at) = IsRefusedAt text at
GrammarEnds text ends.Memory = Unit {0}
GrammarEnds text _ = ⊥
