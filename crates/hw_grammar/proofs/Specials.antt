-- A name with a meaning beside the grammar is read exactly.
use Rattle.std.proofs.Common.{◌≡◌, Bool, true, false, cond, List, [], ◌∷◌, Ok, Err, refl, sym, ap, subst, ◌∙◌, ◌||◌}
use denote.Enum.Bare.{same_true, true_same}
use Rattle.hw_names.specs.declared.names.NameId.{NameId}
use Rattle.hw_grammar.specs.declared.sort.Sort.TheVariants.{Name}
use Rattle.hw_grammar.specs.declared.terminal.Special.{Special}
use Rattle.hw_grammar.specs.contracts.terminal.Special.{the_type}
use Rattle.hw_grammar.specs.declared.terminal.Terminal.{Terminal}
use Rattle.hw_grammar.specs.Sort.{same_sort, same_special}
use Rattle.hw_grammar.specs.Grammar.{OneSpecial, Mapped}
use Rattle.hw_grammar.specs.Reading.{◌>>=◌, one_special}
use Rattle.hw_grammar.proofs.Sorts.{same_sort-true}
use Rattle.hw_grammar.proofs.Exact.{SameHead, Shares, here, there, start, IsLang, Reads, Exact, One-law, Shares-tail, no_start, clash}
use Rattle.hw_grammar.proofs.Passing.{ArePairs, Passes}

-- some name with this meaning
abbrev pub special_terminal : Special → Terminal
special_terminal special = record { sort = Name; name = record { 0 = 0 }; special = special; width = 0; value = 0 }

pub special-law : (special : Special) → IsLang (OneSpecial special) (Name ∷ []) false
special-law special = record {
  starts = λ w a m l. (One-law Name).starts w a m l.0;
  moves = λ w a m l. let v = (One-law Name).moves w a m l.0 in (v.0, v.1, λ n. (v.2 n, l.1));
  eats = λ w a m l. (One-law Name).eats w a m l.0;
  sample = λ m. (special_terminal special ∷ m, special_terminal special, ((refl, refl), refl));
}

same_special-true : (a b : Special) → same_special a b ≡ true → a ≡ b
same_special-true a b e = same_true the_type tt a b e

same_special-refl : (a : Special) → same_special a a ≡ true
same_special-refl a = true_same the_type a a refl

-- a name with another meaning shares nothing with one that has this meaning
other_meaning : (special : Special) (t : Terminal) (rest w : List Terminal) (b : Terminal) (m : List Terminal) → same_special t.special special ≡ false → OneSpecial special w b m → Shares w (t ∷ rest) (t ∷ rest) → SameHead w (t ∷ rest) → ⊥
other_meaning special t rest [] b m h l sh same = absurd same
other_meaning special t rest (x ∷ w) b m h ((e, s), meaning) sh same =
    let head : b ≡ x = cc in
    let is : t.special ≡ special = ap (λ (u : Terminal). u.special) (sym same ∙ sym head) ∙ meaning in
    clash (subst (λ (s : Special). same_special s special ≡ true) (sym is) (same_special-refl special)) h

shared_head : (w ts bad : List Terminal) → Shares w ts bad → SameHead w ts
shared_head [] [] _ s = tt
shared_head [] (y ∷ b) _ (here h) = h
shared_head (x ∷ a) [] _ (here h) = h
shared_head (x ∷ a) (y ∷ b) _ (here h) = h
shared_head (x ∷ a) (y ∷ b) _ (there s) = refl

meaning_reads : (special : Special) (t : Terminal) (rest : List Terminal) (u : Bool) → same_sort t.sort Name ≡ true → same_special t.special special ≡ u
    → Reads (OneSpecial special) [] (t ∷ rest) (cond u (Ok (t, rest)) (Err (t ∷ rest)))
meaning_reads special t rest true e f = record {
  spelled = ((refl, same_sort-true t.sort Name e), same_special-true t.special special f);
  only = λ w bad b m l st sh le. Shares-tail (subst (λ (x : List Terminal). Shares x (t ∷ rest) bad) l.0.0 sh) le;
}
meaning_reads special t rest false e f = record {
  none = λ w b m l st sh. other_meaning special t rest w b m f l sh (shared_head w (t ∷ rest) (t ∷ rest) sh);
  begun = λ m. (special_terminal special ∷ m, special_terminal special, ((refl, refl), refl), start);
}

name_reads : (special : Special) (t : Terminal) (rest : List Terminal) (v : Bool) → same_sort t.sort Name ≡ v
    → Reads (OneSpecial special) [] (t ∷ rest) (cond v (Ok (t, rest)) (Err (t ∷ rest)) >>= λ x. cond (same_special x.0.special special) (Ok x) (Err (t ∷ rest)))
name_reads special t rest true e = meaning_reads special t rest (same_special t.special special) e refl
name_reads special t rest false e = record {
  none = λ w b m l st sh. no_start (special-law special) (t ∷ rest) w (t ∷ rest) b m (ap (λ (v : Bool). v || false) e) l sh;
  begun = λ m. (special_terminal special ∷ m, special_terminal special, ((refl, refl), refl), start);
}

pub special-exact : (special : Special) → Exact (OneSpecial special) (one_special special) (Name ∷ []) false []
special-exact special = record {
  law = special-law special;
  reads = λ ts. elim ts as (λ ts. Reads (OneSpecial special) [] ts (one_special special ts)) [
    | [] ↦ record {
      none = λ w b m l st sh. no_start (special-law special) [] w [] b m refl l sh;
      begun = λ m. (special_terminal special ∷ m, special_terminal special, ((refl, refl), refl), start);
    }
    | t ∷ rest ↦ name_reads special t rest (same_sort t.sort Name) refl
  ];
}

-- seen by a function that gives the same of both
pub passes-special : (R : Terminal → Terminal → Type 0) → ((t u : Terminal) → R t u → u.sort ≡ t.sort) → ((t u : Terminal) → R t u → u.special ≡ t.special) → {A : Type 0} (special : Special) (a : A) (Q : A → Type 0) → Q a
    → Passes R (Mapped (λ (t : Terminal). a) (OneSpecial special)) (Mapped (λ (t : Terminal). a) (OneSpecial special)) Q
passes-special R same_sort same_meaning special a Q q ts [] b rest pairs (t, ((e, s), m), is) = absurd (subst (λ (x : List Terminal). ArePairs R x []) e pairs)
passes-special R same_sort same_meaning special a Q q ts (u ∷ us) b rest pairs (t, ((e, s), m), is) =
    let both : R t u × ArePairs R rest us = subst (λ (x : List Terminal). ArePairs R x (u ∷ us)) e pairs in
    (subst Q (sym is) q, (us, both.1, (u, ((refl, same_sort t u both.0 ∙ s), same_meaning t u both.0 ∙ m), is)))
