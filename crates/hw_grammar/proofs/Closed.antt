-- What stands before a terminal, or between two, is read exactly; so are the texts of names.
use Rattle.std.proofs.Common.{◌≡◌, Bool, true, false, ◌&&◌, List, [], ◌∷◌}
use Rattle.hw_names.specs.Name.{Text, text_of}
use Rattle.hw_grammar.specs.declared.sort.Sort.{Sort}
use Rattle.hw_grammar.specs.declared.sort.Sort.TheVariants.{Name}
use Rattle.hw_grammar.specs.declared.terminal.Terminal.{Terminal}
use Rattle.hw_grammar.specs.Grammar.{Lang, AnyWord, Closed, Between}
use Rattle.hw_grammar.specs.Reading.{Reader, any_word, closed, between}
use Rattle.hw_grammar.proofs.Exact.{Exact, apart, then_first, then_ext, one-exact, then-exact, mapped-exact, after-exact}
use Rattle.hw_grammar.proofs.Carried.{any_name-exact}

pub any_word-exact : (names : List Text) → Exact (AnyWord names) (any_word names) (Name ∷ []) false []
any_word-exact names = mapped-exact (text_of names) any_name-exact

pub closed-exact : {A : Type 0} {P : Lang A} {p : Reader A} {f e : List Sort} {n : Bool} (sort : Sort) → Exact P p f n e → apart (sort ∷ []) e ≡ true → Exact (Closed P sort) (closed p sort) (then_first n f (sort ∷ [])) (n && false) []
closed-exact {A = A} sort a side = mapped-exact (λ (x : A × Terminal). x.0) (then-exact a (one-exact sort) side)

pub between-exact : {A : Type 0} {P : Lang A} {p : Reader A} {f e : List Sort} {n : Bool} (first last : Sort) → Exact P p f n e → apart (last ∷ []) e ≡ true → Exact (Between first P last) (between first p last) (first ∷ []) false (then_ext (n && false) [] [])
between-exact first last a side = after-exact first (closed-exact last a side)
