-- Names, numbers and literals are read exactly.
use Rattle.std.proofs.Common.{false, [], ◌∷◌}
use Rattle.hw_grammar.specs.declared.sort.Sort.TheVariants.{Name, Number, Literal}
use Rattle.hw_grammar.specs.declared.terminal.Terminal.{Terminal}
use Rattle.hw_grammar.specs.Grammar.{AnyName, AnyNumber, AnyLiteral}
use Rattle.hw_grammar.specs.Reading.{any_name, any_number, any_literal}
use Rattle.hw_grammar.proofs.Exact.{Exact, one-exact, mapped-exact}

pub any_name-exact : Exact AnyName any_name (Name ∷ []) false []
any_name-exact = mapped-exact (λ (t : Terminal). t.name) (one-exact Name)

pub any_number-exact : Exact AnyNumber any_number (Number ∷ []) false []
any_number-exact = mapped-exact (λ (t : Terminal). t.value) (one-exact Number)

pub any_literal-exact : Exact AnyLiteral any_literal (Literal ∷ []) false []
any_literal-exact = mapped-exact (λ (t : Terminal). (t.width, t.value)) (one-exact Literal)
