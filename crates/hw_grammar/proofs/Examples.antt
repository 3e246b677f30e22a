-- What a reader's crate writes for a rule: the rule, its reader, that this is exact, and that it looks at no name. In the
-- first proof `refl` says that the sets of sorts by which the reader chooses are apart; in the second, that the function
-- that makes the value does nothing else to a name.
use Rattle.std.proofs.Common.{ℕ, false, List, [], ◌∷◌, map, refl}
use Rattle.hw_names.specs.declared.names.NameId.{NameId}
use Rattle.hw_grammar.specs.declared.sort.Sort.TheVariants.{Name, Plus, Comma}
use Rattle.hw_grammar.specs.Grammar.{Lang, AnyName, AnyNumber, Empty, Then, Either, After, Separated}
use Rattle.hw_grammar.specs.Reading.{Reader, any_name, any_number, empty, then, either, after, separated}
use Rattle.hw_grammar.proofs.Exact.{Exact, empty-exact, then-exact, either-exact, after-exact, separated-exact}
use Rattle.hw_grammar.proofs.Carried.{any_name-exact, any_number-exact}
use Rattle.hw_grammar.proofs.Renaming.{Renames, renames-any_name, renames-any_number, renames-then, renames-either, renames-after, renames-empty, renames-separated}

-- NAME ["+" NUMBER] {"," NAME ["+" NUMBER]}
abbrev IsTime : Lang (NameId × ℕ)
IsTime = Then AnyName (Either (After Plus AnyNumber) (Empty 0))

abbrev AreTimes : Lang (List (NameId × ℕ))
AreTimes = Separated Comma IsTime

abbrev time_at : Reader (NameId × ℕ)
time_at = then any_name (either (Plus ∷ []) (after Plus any_number) (empty 0))

abbrev times_at : Reader (List (NameId × ℕ))
times_at = separated Comma time_at

time-exact : Exact IsTime time_at (Name ∷ []) false (Plus ∷ [])
time-exact = then-exact any_name-exact (either-exact (after-exact Plus any_number-exact) (empty-exact 0) refl) refl

times-exact : Exact AreTimes times_at (Name ∷ []) false (Comma ∷ Plus ∷ Plus ∷ [])
times-exact = separated-exact Comma time-exact refl

time-renames : (rename : NameId → NameId) → Renames rename IsTime (λ x. (rename x.0, x.1))
time-renames rename =
    renames-then rename AnyName (Either (After Plus AnyNumber) (Empty 0)) rename (λ n. n) (renames-any_name rename)
    (renames-either rename (After Plus AnyNumber) (Empty 0) (λ n. n) (renames-after rename Plus AnyNumber (λ n. n) (renames-any_number rename)) (renames-empty rename 0 (λ n. n) refl))

times-renames : (rename : NameId → NameId) → Renames rename AreTimes (map (λ x. (rename x.0, x.1)))
times-renames rename = renames-separated rename Comma IsTime (λ x. (rename x.0, x.1)) (time-renames rename)
