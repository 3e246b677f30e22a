-- Names with other numbers. This project's own.
use Rattle.std.specs.Prelude.{ℕ, suc, cond, List, [], ◌∷◌}
use Rattle.std.specs.Str.{bytes_eq}
use Rattle.hw_names.specs.Name.{Text, text_of}
use Rattle.hw_names.specs.declared.names.NameId.{NameId}
use Rattle.hw_grammar.specs.declared.sort.Sort.TheVariants.{Name}
use Rattle.hw_grammar.specs.declared.terminal.Terminal.{Terminal}
use Rattle.hw_grammar.specs.Sort.{same_sort}

-- the number of a text that is in the list
abbrev pub index_of : List Text → Text → ℕ
index_of [] word = 0
index_of (first ∷ names) word = cond (bytes_eq first word) 0 (suc (index_of names word))

-- the number that the name with this number in the old list has in the new one
abbrev pub renumbered : List Text → List Text → NameId → NameId
renumbered old new id = record { 0 = index_of new (text_of old id) }

-- the terminal with another number for its name
abbrev pub renamed : (NameId → NameId) → Terminal → Terminal
renamed rename t = record t { name = cond (same_sort t.sort Name) (rename t.name) t.name }
