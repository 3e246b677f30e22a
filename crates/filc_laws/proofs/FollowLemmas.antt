-- Grammars that look at no name: what one language spells, another spells with other terminals that look the same, of the same sorts
-- and with the same meanings beside the grammar, but maybe as another value. So where terminals are refused is a matter of their looks.
use Rattle.std.proofs.Common.{◌≡◌, ℕ, zero, suc, ◌+◌, ◌<◌, ◌≤◌, Bool, true, false, List, [], ◌∷◌, ◌++◌, length, take, drop, Option, Some, None, inl, inr, refl, sym, ap, subst, ◌∙◌, append_assoc, arith}
use Rattle.std.proofs.lemmas.List.{take-append-drop}
use Rattle.hw_names.specs.Name.{Text, text_of}
use Rattle.hw_grammar.specs.declared.sort.Sort.{Sort}
use Rattle.hw_grammar.specs.declared.sort.Sort.TheVariants.{Name, Number, Literal}
use Rattle.hw_grammar.specs.declared.terminal.Special.{Special}
use Rattle.hw_grammar.specs.declared.terminal.Terminal.{Terminal}
use Rattle.hw_grammar.specs.Grammar.{One, OneSpecial, Empty, Mapped, AnyWord, AnyNumber, AnyLiteral, Then, Either, Optional, After, Closed, Between, Many, Separated, ListTail, Listed}
use Rattle.hw_grammar.specs.Place.{Spells, Viable, Place}
use Rattle.hw_grammar.proofs.Passing.{ArePairs}
use Rattle.filc_laws.proofs.ListLemmas.{take_less}

abbrev pub LooksSame : Terminal → Terminal → Type 0
LooksSame t u = (u.sort ≡ t.sort) × (u.special ≡ t.special)

-- what L spells, M spells with terminals that look the same
pub record Follows {A : Type 0} (L M : List Terminal → A → List Terminal → Type 0) : Type 0 where
  pub follow : (ts us : List Terminal) (a : A) (rest : List Terminal) → ArePairs LooksSame ts us → L ts a rest → (b : A) × (others : List Terminal) × ArePairs LooksSame rest others × M us b others

-- ---- the marks of a grammar

one_follows : (sort : Sort) (ts us : List Terminal) (t : Terminal) (rest : List Terminal) → ArePairs LooksSame ts us → One sort ts t rest → (u : Terminal) × (others : List Terminal) × ArePairs LooksSame rest others × One sort us u others
one_follows sort ts [] t rest pairs (e, s) = absurd (subst (λ (x : List Terminal). ArePairs LooksSame x []) e pairs)
one_follows sort ts (u ∷ us) t rest pairs (e, s) =
    let both : LooksSame t u × ArePairs LooksSame rest us = subst (λ (x : List Terminal). ArePairs LooksSame x (u ∷ us)) e pairs in
    (u, us, both.1, (refl, both.0.0 ∙ s))

pub follows-one : (sort : Sort) → Follows (One sort) (One sort)
follows-one sort = record { follow = one_follows sort }

special_follows : (special : Special) (ts us : List Terminal) (t : Terminal) (rest : List Terminal) → ArePairs LooksSame ts us → OneSpecial special ts t rest
    → (u : Terminal) × (others : List Terminal) × ArePairs LooksSame rest others × OneSpecial special us u others
special_follows special ts [] t rest pairs ((e, s), m) = absurd (subst (λ (x : List Terminal). ArePairs LooksSame x []) e pairs)
special_follows special ts (u ∷ us) t rest pairs ((e, s), m) =
    let both : LooksSame t u × ArePairs LooksSame rest us = subst (λ (x : List Terminal). ArePairs LooksSame x (u ∷ us)) e pairs in
    (u, us, both.1, ((refl, both.0.0 ∙ s), both.0.1 ∙ m))

pub follows-special : (special : Special) → Follows (OneSpecial special) (OneSpecial special)
follows-special special = record { follow = special_follows special }

pub follows-empty : {A : Type 0} (v : A) → Follows (Empty v) (Empty v)
follows-empty v = record { follow = λ ts us a rest pairs is. (v, us, subst (λ (x : List Terminal). ArePairs LooksSame x us) is.1 pairs, (refl, refl)) }

pub follows-mapped : {A B : Type 0} {L M : List Terminal → A → List Terminal → Type 0} (f g : A → B) → Follows L M → Follows (Mapped f L) (Mapped g M)
follows-mapped f g h = record { follow = λ ts us b rest pairs is. let k = h.follow ts us is.0 rest pairs is.1 in (g k.0, k.1, k.2, (k.0, k.3, refl)) }

pub follows-then : {A B : Type 0} {L M : List Terminal → A → List Terminal → Type 0} {K N : List Terminal → B → List Terminal → Type 0} → Follows L M → Follows K N → Follows (Then L K) (Then M N)
follows-then h g = record {
  follow = λ ts us x rest pairs is.
      let a = h.follow ts us x.0 is.0 pairs is.1 in
      let b = g.follow is.0 a.1 x.1 rest a.2 is.2 in
      ((a.0, b.0), b.1, b.2, (a.1, a.3, b.3));
}

pub follows-either : {A : Type 0} {L M K N : List Terminal → A → List Terminal → Type 0} → Follows L M → Follows K N → Follows (Either L K) (Either M N)
follows-either h g = record {
  follow = λ ts us a rest pairs is. elim is [
    | inl first ↦ let k = h.follow ts us a rest pairs first in (k.0, k.1, k.2, inl k.3)
    | inr second ↦ let k = g.follow ts us a rest pairs second in (k.0, k.1, k.2, inr k.3)
  ];
}

many_follows : {A : Type 0} {L M : List Terminal → A → List Terminal → Type 0} → Follows L M → (ts us : List Terminal) (xs : List A) (rest : List Terminal) → ArePairs LooksSame ts us → Many L ts xs rest → (ys : List A) × (others : List Terminal) × ArePairs LooksSame rest others × Many M us ys others
many_follows h ts us [] rest pairs is = ([], us, subst (λ (x : List Terminal). ArePairs LooksSame x us) is pairs, refl)
many_follows h ts us (x ∷ xs) rest pairs (mid, first, later) =
    let a = h.follow ts us x mid pairs first in
    let b = many_follows h mid a.1 xs rest a.2 later in
    (a.0 ∷ b.0, b.1, b.2, (a.1, a.3, b.3))

pub follows-many : {A : Type 0} {L M : List Terminal → A → List Terminal → Type 0} → Follows L M → Follows (Many L) (Many M)
follows-many h = record { follow = many_follows h }

pub follows-optional : {A : Type 0} {L M : List Terminal → A → List Terminal → Type 0} → Follows L M → Follows (Optional L) (Optional M)
follows-optional {A = A} h = follows-either (follows-mapped (λ (a : A). Some a) (λ (a : A). Some a) h) (let none : Option A = None in follows-empty none)

pub follows-after : {A : Type 0} {L M : List Terminal → A → List Terminal → Type 0} (sort : Sort) → Follows L M → Follows (After sort L) (After sort M)
follows-after {A = A} sort h = follows-mapped (λ (x : Terminal × A). x.1) (λ (x : Terminal × A). x.1) (follows-then (follows-one sort) h)

pub follows-closed : {A : Type 0} {L M : List Terminal → A → List Terminal → Type 0} (sort : Sort) → Follows L M → Follows (Closed L sort) (Closed M sort)
follows-closed {A = A} sort h = follows-mapped (λ (x : A × Terminal). x.0) (λ (x : A × Terminal). x.0) (follows-then h (follows-one sort))

pub follows-between : {A : Type 0} {L M : List Terminal → A → List Terminal → Type 0} (first last : Sort) → Follows L M → Follows (Between first L last) (Between first M last)
follows-between first last h = follows-after first (follows-closed last h)

pub follows-separated : {A : Type 0} {L M : List Terminal → A → List Terminal → Type 0} (sort : Sort) → Follows L M → Follows (Separated sort L) (Separated sort M)
follows-separated {A = A} sort h = follows-mapped (λ (x : A × List A). x.0 ∷ x.1) (λ (x : A × List A). x.0 ∷ x.1) (follows-then h (follows-many (follows-after sort h)))

follows-list_tail : {A : Type 0} {L M : List Terminal → A → List Terminal → Type 0} (sort : Sort) → Follows L M → Follows (ListTail sort L) (ListTail sort M)
follows-list_tail {A = A} sort h =
    follows-mapped (λ (x : List A × Bool). x.0) (λ (x : List A × Bool). x.0)
    (follows-then (follows-many (follows-after sort h)) (follows-either (follows-mapped (λ (t : Terminal). true) (λ (t : Terminal). true) (follows-one sort)) (follows-empty false)))

pub follows-listed : {A : Type 0} {L M : List Terminal → A → List Terminal → Type 0} (sort : Sort) → Follows L M → Follows (Listed sort L) (Listed sort M)
follows-listed {A = A} sort h =
    follows-either (follows-mapped (λ (x : A × List A). x.0 ∷ x.1) (λ (x : A × List A). x.0 ∷ x.1) (follows-then h (follows-list_tail sort h))) (follows-empty {A = List A} [])

pub follows-word : (old new : List Text) → Follows (AnyWord old) (AnyWord new)
follows-word old new = follows-mapped (text_of old) (text_of new) (follows-mapped (λ (t : Terminal). t.name) (λ (t : Terminal). t.name) (follows-one Name))

pub follows-number : Follows AnyNumber AnyNumber
follows-number = follows-mapped (λ (t : Terminal). t.value) (λ (t : Terminal). t.value) (follows-one Number)

pub follows-literal : Follows AnyLiteral AnyLiteral
follows-literal = follows-mapped (λ (t : Terminal). (t.width, t.value)) (λ (t : Terminal). (t.width, t.value)) (follows-one Literal)

-- ---- pairs of terminals

pairs_self : (ts : List Terminal) → ArePairs LooksSame ts ts
pairs_self [] = tt
pairs_self (t ∷ ts) = ((refl, refl), pairs_self ts)

pub pairs_back : (ts us : List Terminal) → ArePairs LooksSame ts us → ArePairs LooksSame us ts
pairs_back [] [] pairs = tt
pairs_back [] (u ∷ us) pairs = absurd pairs
pairs_back (t ∷ ts) [] pairs = absurd pairs
pairs_back (t ∷ ts) (u ∷ us) pairs = ((sym pairs.0.0, sym pairs.0.1), pairs_back ts us pairs.1)

pairs_begin : (k : ℕ) (ts us more : List Terminal) → ArePairs LooksSame ts us → ArePairs LooksSame (take k ts ++ more) (take k us ++ more)
pairs_begin zero ts us more pairs = pairs_self more
pairs_begin (suc k) [] [] more pairs = pairs_self more
pairs_begin (suc k) [] (u ∷ us) more pairs = absurd pairs
pairs_begin (suc k) (t ∷ ts) [] more pairs = absurd pairs
pairs_begin (suc k) (t ∷ ts) (u ∷ us) more pairs = (pairs.0, pairs_begin k ts us more pairs.1)

none_left : (others : List Terminal) → ArePairs LooksSame [] others → others ≡ []
none_left [] pairs = refl
none_left (u ∷ others) pairs = absurd pairs

-- ---- what follows for places

pub spells_too : {A : Type 0} {L M : List Terminal → A → List Terminal → Type 0} → Follows L M → (ts us : List Terminal) (a : A) → ArePairs LooksSame ts us → Spells L ts a → (b : A) × Spells M us b
spells_too {M = M} h ts us a pairs spelled =
    let k = h.follow ts us a [] pairs spelled in
    (k.0, subst (λ (x : List Terminal). M us k.0 x) (none_left k.1 k.2) k.3)

pub viable_too : {A : Type 0} {L M : List Terminal → A → List Terminal → Type 0} → Follows L M → (ts us : List Terminal) (k : ℕ) → ArePairs LooksSame ts us → Viable L ts k → Viable M us k
viable_too {L = L} h ts us k pairs (whole, a, spelled, more, is) =
    let s = spells_too h (take k ts ++ more) (take k us ++ more) a (pairs_begin k ts us more pairs) (subst (λ (x : List Terminal). L x a []) is spelled) in
    (take k us ++ more, s.0, s.1, more, refl)

pub viable_less : {A : Type 0} (L : List Terminal → A → List Terminal → Type 0) (ts : List Terminal) (j k : ℕ) → j ≤ k → Viable L ts k → Viable L ts j
viable_less L ts j k less (whole, a, spelled, more, is) =
    let front : take k ts ≡ take j ts ++ drop j (take k ts) = sym (take-append-drop j (take k ts)) ∙ ap (λ (x : List Terminal). x ++ drop j (take k ts)) (take_less j k ts less) in
    (whole, a, spelled, drop j (take k ts) ++ more, is ∙ ap (λ (x : List Terminal). x ++ more) front ∙ append_assoc (take j ts) (drop j (take k ts)) more)

-- of two places the one is not before the other, unless it is past the last terminal
pub not_before : {A : Type 0} {L M : List Terminal → A → List Terminal → Type 0} → Follows M L → (ts us : List Terminal) (j k : ℕ) → ArePairs LooksSame us ts → Place L ts j → Place M us k → j < k → length ts ≤ j
not_before {L = L} h ts us j k pairs p q less =
    let viable = viable_less L ts (j + 1) k (omega arith) (viable_too h us ts k pairs q.0) in
    let never : j < length ts → ⊥ = λ within. p.1 (viable, within) in
    omega (arith, never)
