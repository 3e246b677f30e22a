-- Words and numbers of a language's grammar. This project's.
use Rattle.std.specs.Prelude.{◌≡◌, ℕ, ◌^◌, ◌<◌, None}
use Rattle.hw_names.specs.Name.{Text}
use Rattle.hw_lex.specs.declared.token.Dialect.{Dialect}
use Rattle.hw_lex.specs.Word.{IsName}
use Rattle.hw_grammar.specs.Terminals.{keywords, entry_of}

-- the text is a name of the language: it has the form of one, and is no keyword
abbrev pub IsNameOf : Dialect → Text → Type 0
IsNameOf dialect text = IsName dialect text × (entry_of (keywords dialect) text ≡ None)

-- the number can stand in a text
abbrev pub IsWritten : ℕ → Type 0
IsWritten n = n < 2 ^ 128
