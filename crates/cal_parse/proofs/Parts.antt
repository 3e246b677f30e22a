-- What leaves no trace is read exactly.
use Rattle.std.proofs.Common.{◌≡◌, Bool, true, ◌&&◌, List}
use Rattle.hw_grammar.specs.declared.sort.Sort.{Sort}
use Rattle.hw_grammar.specs.Grammar.{Lang}
use Rattle.hw_grammar.specs.Reading.{Reader}
use Rattle.hw_grammar.proofs.Exact.{Exact, apart, then_first, then_ext, then-exact, mapped-exact}
use Rattle.cal_parse.specs.Grammar.{Past}
use Rattle.cal_parse.specs.inside.Reading.{past}

pub past-exact : {A B : Type 0} {P : Lang A} {Q : Lang B} {p : Reader A} {q : Reader B} {f g d e : List Sort} {n k : Bool} → Exact P p f n d → Exact Q q g k e → apart g d ≡ true → Exact (Past P Q) (past p q) (then_first n f g) (n && k) (then_ext k d e)
past-exact {A = A} {B = B} a b side = mapped-exact (λ (x : A × B). x.1) (then-exact a b side)
