-- Sets of sorts, and meanings of words.
use Rattle.std.specs.Prelude.{Bool, false, ◌||◌, List, [], ◌∷◌}
use denote.Enum.Bare.{sameb}
use Rattle.hw_grammar.specs.declared.sort.Sort.{Sort}
use Rattle.hw_grammar.specs.contracts.sort.Sort.{the_type}
use Rattle.hw_grammar.specs.declared.terminal.Special.{Special}
use Rattle.hw_grammar.specs.contracts.terminal.Special.{the_type as special_type}
use Rattle.hw_grammar.specs.declared.terminal.Terminal.{Terminal}

-- whether two sorts are the same
abbrev pub same_sort : Sort → Sort → Bool
same_sort a b = sameb the_type a b

-- whether two words mean the same beside the grammar
abbrev pub same_special : Special → Special → Bool
same_special a b = sameb special_type a b

-- whether the sort is in the set
abbrev pub has_sort : Sort → List Sort → Bool
has_sort sort [] = false
has_sort sort (first ∷ set) = same_sort sort first || has_sort sort set

-- whether the first terminal's sort is in the set
abbrev pub has : List Sort → List Terminal → Bool
has set [] = false
has set (t ∷ _) = has_sort t.sort set
