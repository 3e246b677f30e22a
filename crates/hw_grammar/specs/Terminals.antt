-- Tokens as terminals. The words of the languages are those of Filament (PLDI 2023) and Calyx (ASPLOS 2021) in this
-- project's profile; those of Filament with parameters, and terminals, are this project's own.
use Rattle.std.specs.Prelude.{◌≡◌, ℕ, ◌++◌, List, [], ◌∷◌, Option, Some, codes, slice_get, unwrap_or, MatchBool}
use Rattle.std.specs.Map.{lookup}
use Rattle.std.specs.Str.{bytes_eq}
use Rattle.hw_names.specs.Name.{Text}
use Rattle.hw_names.specs.declared.names.NameId.{NameId}
use Rattle.hw_lex.specs.declared.token.Dialect.{Dialect}
use Rattle.hw_lex.specs.declared.token.Dialect.TheVariants.{Fil, Filp, Cal}
use Rattle.hw_lex.specs.declared.token.Kind.{Kind}
use Rattle.hw_lex.specs.declared.token.Kind.TheVariants as kinds
use Rattle.hw_lex.specs.declared.token.Token.{Token}
use Rattle.hw_lex.specs.Number.{number_of, width_of, value_of}
use Rattle.hw_lex.specs.Cut.{token_text}
use Rattle.hw_grammar.specs.declared.sort.Sort.{Sort}
use Rattle.hw_grammar.specs.declared.sort.Sort.TheVariants.{Name, Number, Literal, Comp, New, Interface, Import, For, In, Lit, If, Else, Component}
use Rattle.hw_grammar.specs.declared.sort.Sort.TheVariants.{Cells, Wires, Control, Group, Comb, Seq, Par, While, With, Invoke, Static, Ref, Repeat, Primitive, Extern, Metadata, At}
use Rattle.hw_grammar.specs.declared.sort.Sort.TheVariants.{LeftBracket, RightBracket, LeftParen, RightParen, LeftAngle, RightAngle, LeftBrace, RightBrace}
use Rattle.hw_grammar.specs.declared.sort.Sort.TheVariants.{Comma, Colon, ColonEquals, Semicolon, Equals, Plus, Minus, Star, Hash, Dot, DotDot, Arrow}
use Rattle.hw_grammar.specs.declared.sort.Sort.TheVariants.{Question, Not, And, Or, EqualsEquals, NotEquals, AtMost, AtLeast}
use Rattle.hw_grammar.specs.declared.sort.Sort.TheVariants as sorts
use Rattle.hw_grammar.specs.declared.terminal.Special.{Special}
use Rattle.hw_grammar.specs.declared.terminal.Special.TheVariants.{External, Clock, Reset, Done, Plain}
use Rattle.hw_grammar.specs.declared.terminal.Terminal.{Terminal}
use Rattle.hw_grammar.specs.Sort.{same_sort}

-- the words that are no names
abbrev pub keywords : Dialect → List (Text × Sort)
keywords Fil = (codes "comp", Comp) ∷ (codes "new", New) ∷ (codes "import", Import) ∷ (codes "interface", Interface) ∷ []
keywords Filp =
    (codes "comp", Comp) ∷ (codes "new", New) ∷ (codes "import", Import) ∷ (codes "interface", Interface) ∷ (codes "for", For) ∷ (codes "in", In)
    ∷ (codes "if", If) ∷ (codes "else", Else) ∷ (codes "lit", Lit) ∷ []
keywords Cal =
    (codes "component", Component) ∷ (codes "cells", Cells) ∷ (codes "wires", Wires) ∷ (codes "control", Control) ∷ (codes "group", Group)
    ∷ (codes "comb", Comb)
    ∷ (codes "seq", Seq) ∷ (codes "par", Par) ∷ (codes "if", If) ∷ (codes "else", Else) ∷ (codes "while", While) ∷ (codes "with", With)
    ∷ (codes "invoke", Invoke)
    ∷ (codes "import", Import) ∷ (codes "static", Static) ∷ (codes "ref", Ref) ∷ (codes "repeat", Repeat) ∷ (codes "primitive", Primitive)
    ∷ (codes "extern", Extern) ∷ (codes "metadata", Metadata) ∷ []

-- the marks of all languages
abbrev pub marks : List (Text × Sort)
marks =
    (codes "@", At) ∷ (codes "[", LeftBracket) ∷ (codes "]", RightBracket) ∷ (codes "(", LeftParen) ∷ (codes ")", RightParen)
    ∷ (codes "<", LeftAngle) ∷ (codes ">", RightAngle) ∷ (codes "{", LeftBrace) ∷ (codes "}", RightBrace)
    ∷ (codes ",", Comma) ∷ (codes ":", Colon) ∷ (codes ":=", ColonEquals) ∷ (codes ";", Semicolon) ∷ (codes "=", Equals)
    ∷ (codes "+", Plus) ∷ (codes "-", Minus) ∷ (codes "*", Star) ∷ (codes "#", Hash) ∷ (codes ".", Dot) ∷ (codes "..", DotDot) ∷ (codes "->", Arrow)
    ∷ (codes "?", Question) ∷ (codes "!", Not) ∷ (codes "&", And) ∷ (codes "|", Or)
    ∷ (codes "==", EqualsEquals) ∷ (codes "!=", NotEquals) ∷ (codes "<=", AtMost) ∷ (codes ">=", AtLeast) ∷ []

-- what a table says of a word
abbrev pub entry_of : {A : Type 0} → List (Text × A) → Text → Option A
entry_of table word = lookup (λ text. bytes_eq text word) table

-- the sort of a token; each mark of each language is in the table
abbrev pub sort_of : Dialect → Kind → Text → Sort
sort_of dialect kinds.Name word = unwrap_or (entry_of (keywords dialect) word) Name
sort_of dialect kinds.Number word = Number
sort_of dialect kinds.Literal word = Literal
sort_of dialect kinds.Text word = sorts.Text
sort_of dialect kinds.Mark word = unwrap_or (entry_of marks word) sorts.Text

-- the names that have a meaning beside the grammar
abbrev pub special_names : List (Text × Special)
special_names = (codes "external", External) ∷ (codes "clk", Clock) ∷ (codes "reset", Reset) ∷ (codes "done", Done) ∷ []

-- the texts, with their double quotes, that have one
abbrev pub special_texts : List (Text × Special)
special_texts = (34 ∷ (codes "external" ++ 34 ∷ []), External) ∷ []

-- what the word of a token means beside the grammar
abbrev pub special_of : Kind → Text → Special
special_of kinds.Name word = unwrap_or (entry_of special_names word) Plain
special_of kinds.Text word = unwrap_or (entry_of special_texts word) Plain
special_of _ word = Plain

-- the width that a token has, and 0 at one that has none
abbrev pub width_at : Kind → Text → ℕ
width_at kinds.Literal word = width_of word
width_at _ word = 0

-- the value that a token has, and 0 at one that has none
abbrev pub value_at : Kind → Text → ℕ
value_at kinds.Number word = number_of word
value_at kinds.Literal word = value_of word
value_at _ word = 0

-- the number of the word, where the sort is that of names, else 0
abbrev pub IsNumbered : List Text → Text → Sort → NameId → Type 0
IsNumbered names word sort id = MatchBool (same_sort sort Name) (slice_get names id.0 ≡ Some word) (id.0 ≡ 0)

-- the terminal of a token, with these names
pub record IsTerminal (dialect : Dialect) (names : List Text) (kind : Kind) (word : Text) (t : Terminal) : Type 0 where
  pub sort : t.sort ≡ sort_of dialect kind word
  pub name : IsNumbered names word t.sort t.name
  pub special : t.special ≡ special_of kind word
  pub width : t.width ≡ width_at kind word
  pub value : t.value ≡ value_at kind word

-- the terminals of the tokens of a text, one by one
abbrev pub AreTerminals : Dialect → List Text → List ℕ → List Token → List Terminal → Type 0
AreTerminals dialect names source [] [] = Unit {0}
AreTerminals dialect names source [] (_ ∷ _) = ⊥
AreTerminals dialect names source (_ ∷ _) [] = ⊥
AreTerminals dialect names source (token ∷ tokens) (t ∷ ts) =
    IsTerminal dialect names token.kind (token_text source token) t × AreTerminals dialect names source tokens ts
