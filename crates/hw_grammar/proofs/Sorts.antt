-- Sorts are told apart by a test.
use Rattle.std.proofs.Common.{◌≡◌, true, refl}
use denote.Enum.Bare.{same_true, true_same}
use Rattle.hw_grammar.specs.declared.sort.Sort.{Sort}
use Rattle.hw_grammar.specs.contracts.sort.Sort.{the_type}
use Rattle.hw_grammar.specs.declared.terminal.Terminal.{Terminal}
use Rattle.hw_grammar.specs.declared.terminal.Special.TheVariants.{Plain}
use Rattle.hw_grammar.specs.Sort.{same_sort}

pub same_sort-true : (a b : Sort) → same_sort a b ≡ true → a ≡ b
same_sort-true a b e = same_true the_type tt a b e

pub same_sort-refl : (a : Sort) → same_sort a a ≡ true
same_sort-refl a = true_same the_type a a refl

-- some terminal of the sort
abbrev pub terminal_of : Sort → Terminal
terminal_of sort = record { sort = sort; name = record { 0 = 0 }; special = Plain; width = 0; value = 0 }
