-- Terminals of lists, as printers write them.
use Rattle.std.specs.Prelude.{List, [], ◌∷◌, ◌++◌}
use Rattle.hw_grammar.specs.declared.terminal.Terminal.{Terminal}

-- those of each item, one after the other
abbrev pub show_all : {A : Type 0} → (A → List Terminal) → List A → List Terminal
show_all show [] = []
show_all show (x ∷ xs) = show x ++ show_all show xs

-- with a terminal before them
abbrev pub marked : {A : Type 0} → Terminal → (A → List Terminal) → A → List Terminal
marked t show x = t ∷ show x

-- those of each item, with a terminal between each two
abbrev pub show_separated : {A : Type 0} → Terminal → (A → List Terminal) → List A → List Terminal
show_separated t show [] = []
show_separated t show (x ∷ xs) = show x ++ show_all (marked t show) xs
