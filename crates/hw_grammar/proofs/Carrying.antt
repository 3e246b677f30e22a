-- Passing from one list of names to another, told in a form from which the languages are found: what one text spells with the old names it spells
-- with the new ones, and has the property Q.
use Rattle.std.proofs.Common.{◌≡◌, ℕ, List, [], ◌∷◌, Option}
use Rattle.std.specs.List.{AllByRecursion}
use Rattle.hw_names.specs.Name.{Text}
use Rattle.hw_lex.specs.declared.token.Dialect.{Dialect}
use Rattle.hw_grammar.specs.declared.sort.Sort.{Sort}
use Rattle.hw_grammar.specs.declared.terminal.Terminal.{Terminal}
use Rattle.hw_grammar.specs.Grammar.{Lang, Empty, Mapped, AnyWord, AnyNumber, AnyLiteral, Then, Either, Optional, After, Closed, Between, Many, Separated, Listed}
use Rattle.hw_grammar.specs.Words.{IsNameOf, IsWritten}
use Rattle.hw_grammar.proofs.Passing.{Passes, Both, OfEach, OfSome, passes-empty, passes-mapped, passes-weaker, passes-then, passes-either, passes-optional, passes-mark, passes-closed, passes-between, passes-many, passes-separated, passes-listed}
use Rattle.hw_grammar.proofs.Alike.{IsAlike, same_sorts, passes-any_word, passes-any_number, passes-any_literal}

pub record Carries {A : Type 0} (dialect : Dialect) (old new : List Text) (L M : List Terminal → A → List Terminal → Type 0) (Q : A → Type 0) : Type 0 where
  pub passes : Passes (IsAlike dialect old new) L M Q

pub carries-any_word : (dialect : Dialect) (old new : List Text) → Carries dialect old new (AnyWord old) (AnyWord new) (IsNameOf dialect)
carries-any_word dialect old new = record { passes = passes-any_word dialect old new }

pub carries-any_number : (dialect : Dialect) (old new : List Text) → Carries dialect old new AnyNumber AnyNumber IsWritten
carries-any_number dialect old new = record { passes = passes-any_number dialect old new }

pub carries-any_literal : (dialect : Dialect) (old new : List Text) → Carries dialect old new AnyLiteral AnyLiteral (Both IsWritten IsWritten)
carries-any_literal dialect old new = record { passes = passes-any_literal dialect old new }

pub carries-empty : {A : Type 0} {dialect : Dialect} {old new : List Text} (v : A) (Q : A → Type 0) → Q v → Carries dialect old new (Empty v) (Empty v) Q
carries-empty {dialect = dialect} {old = old} {new = new} v Q q = record { passes = passes-empty (IsAlike dialect old new) (same_sorts dialect old new) v Q q }

pub carries-mapped : {A B : Type 0} {dialect : Dialect} {old new : List Text} {L M : List Terminal → A → List Terminal → Type 0} {P : A → Type 0} {Q : B → Type 0} (f : A → B)
    → Carries dialect old new L M P → ((a : A) → P a → Q (f a)) → Carries dialect old new (Mapped f L) (Mapped f M) Q
carries-mapped {dialect = dialect} {old = old} {new = new} {L = L} {M = M} {P = P} {Q = Q} f l h =
    record { passes = passes-mapped (IsAlike dialect old new) (same_sorts dialect old new) f L M P Q l.passes h }

pub carries-weaker : {A : Type 0} {dialect : Dialect} {old new : List Text} {L M : List Terminal → A → List Terminal → Type 0} {P Q : A → Type 0}
    → Carries dialect old new L M P → ((a : A) → P a → Q a) → Carries dialect old new L M Q
carries-weaker {dialect = dialect} {old = old} {new = new} {L = L} {M = M} {P = P} {Q = Q} l h =
    record { passes = passes-weaker (IsAlike dialect old new) (same_sorts dialect old new) L M P Q l.passes h }

pub carries-then : {A B : Type 0} {dialect : Dialect} {old new : List Text} {L M : List Terminal → A → List Terminal → Type 0} {P : A → Type 0} {K N : List Terminal → B → List Terminal → Type 0} {Q : B → Type 0}
    → Carries dialect old new L M P → Carries dialect old new K N Q → Carries dialect old new (Then L K) (Then M N) (Both P Q)
carries-then {dialect = dialect} {old = old} {new = new} {L = L} {M = M} {P = P} {K = K} {N = N} {Q = Q} l k =
    record { passes = passes-then (IsAlike dialect old new) (same_sorts dialect old new) L M P K N Q l.passes k.passes }

pub carries-either : {A : Type 0} {dialect : Dialect} {old new : List Text} {L M K N : List Terminal → A → List Terminal → Type 0} {Q : A → Type 0}
    → Carries dialect old new L M Q → Carries dialect old new K N Q → Carries dialect old new (Either L K) (Either M N) Q
carries-either {dialect = dialect} {old = old} {new = new} {L = L} {M = M} {K = K} {N = N} {Q = Q} l k =
    record { passes = passes-either (IsAlike dialect old new) (same_sorts dialect old new) L M K N Q l.passes k.passes }

pub carries-optional : {A : Type 0} {dialect : Dialect} {old new : List Text} {L M : List Terminal → A → List Terminal → Type 0} {Q : A → Type 0}
    → Carries dialect old new L M Q → Carries dialect old new (Optional L) (Optional M) (OfSome Q)
carries-optional {dialect = dialect} {old = old} {new = new} {L = L} {M = M} {Q = Q} l =
    record { passes = passes-optional (IsAlike dialect old new) (same_sorts dialect old new) L M Q l.passes }

pub carries-after : {A : Type 0} {dialect : Dialect} {old new : List Text} {L M : List Terminal → A → List Terminal → Type 0} {Q : A → Type 0} (sort : Sort)
    → Carries dialect old new L M Q → Carries dialect old new (After sort L) (After sort M) Q
carries-after {dialect = dialect} {old = old} {new = new} {L = L} {M = M} {Q = Q} sort l =
    record { passes = passes-mark (IsAlike dialect old new) (same_sorts dialect old new) sort L M Q l.passes }

pub carries-closed : {A : Type 0} {dialect : Dialect} {old new : List Text} {L M : List Terminal → A → List Terminal → Type 0} {Q : A → Type 0} (sort : Sort)
    → Carries dialect old new L M Q → Carries dialect old new (Closed L sort) (Closed M sort) Q
carries-closed {dialect = dialect} {old = old} {new = new} {L = L} {M = M} {Q = Q} sort l =
    record { passes = passes-closed (IsAlike dialect old new) (same_sorts dialect old new) sort L M Q l.passes }

pub carries-between : {A : Type 0} {dialect : Dialect} {old new : List Text} {L M : List Terminal → A → List Terminal → Type 0} {Q : A → Type 0} (first last : Sort)
    → Carries dialect old new L M Q → Carries dialect old new (Between first L last) (Between first M last) Q
carries-between {dialect = dialect} {old = old} {new = new} {L = L} {M = M} {Q = Q} first last l =
    record { passes = passes-between (IsAlike dialect old new) (same_sorts dialect old new) first last L M Q l.passes }

pub carries-many : {A : Type 0} {dialect : Dialect} {old new : List Text} {L M : List Terminal → A → List Terminal → Type 0} {Q : A → Type 0}
    → Carries dialect old new L M Q → Carries dialect old new (Many L) (Many M) (AllByRecursion Q)
carries-many {dialect = dialect} {old = old} {new = new} {L = L} {M = M} {Q = Q} l =
    record { passes = passes-many (IsAlike dialect old new) (same_sorts dialect old new) L M Q l.passes }

-- such a list is not empty
pub carries-separated : {A : Type 0} {dialect : Dialect} {old new : List Text} {L M : List Terminal → A → List Terminal → Type 0} {Q : A → Type 0} (sort : Sort)
    → Carries dialect old new L M Q → Carries dialect old new (Separated sort L) (Separated sort M) (OfEach Q)
carries-separated {dialect = dialect} {old = old} {new = new} {L = L} {M = M} {Q = Q} sort l =
    record { passes = passes-separated (IsAlike dialect old new) (same_sorts dialect old new) sort L M Q l.passes }

pub carries-listed : {A : Type 0} {dialect : Dialect} {old new : List Text} {L M : List Terminal → A → List Terminal → Type 0} {Q : A → Type 0} (sort : Sort)
    → Carries dialect old new L M Q → Carries dialect old new (Listed sort L) (Listed sort M) (AllByRecursion Q)
carries-listed {dialect = dialect} {old = old} {new = new} {L = L} {M = M} {Q = Q} sort l =
    record { passes = passes-listed (IsAlike dialect old new) (same_sorts dialect old new) sort L M Q l.passes }
