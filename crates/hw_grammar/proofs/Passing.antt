-- What terminals spell is spelled by others that are alike, and has what each terminal gives it.
use Rattle.std.proofs.Common.{◌≡◌, List, [], ◌∷◌, ◌≢◌, Option, Some, None, inl, inr, refl, sym, subst, ◌∙◌}
use Rattle.std.specs.List.{AllByRecursion}
use Rattle.hw_grammar.specs.declared.sort.Sort.{Sort}
use Rattle.hw_grammar.specs.declared.terminal.Terminal.{Terminal}
use Rattle.hw_grammar.specs.Grammar.{Lang, One, Empty, Mapped, Then, Either, Optional, After, Closed, Between, Many, Separated, ListTail, Listed}

-- the terminals stand in the relation one by one
abbrev pub ArePairs : (Terminal → Terminal → Type 0) → List Terminal → List Terminal → Type 0
ArePairs R [] [] = Unit {0}
ArePairs R [] (u ∷ us) = ⊥
ArePairs R (t ∷ ts) [] = ⊥
ArePairs R (t ∷ ts) (u ∷ us) = R t u × ArePairs R ts us

-- what L spells has the property Q, and M spells it with terminals that stand in the relation to those of L
abbrev pub Passes : {A : Type 0} → (Terminal → Terminal → Type 0) → Lang A → Lang A → (A → Type 0) → Type 0
Passes R L M Q =
    (ts us : List Terminal) (a : _) (rest : List Terminal) → ArePairs R ts us → L ts a rest → Q a × ((others : List Terminal) × ArePairs R rest others × M us a others)

-- the property of an option's value
abbrev pub OfSome : {A : Type 0} → (A → Type 0) → Option A → Type 0
OfSome Q None = Unit {0}
OfSome Q (Some a) = Q a

-- a property of each part of a pair
abbrev pub Both : {A B : Type 0} → (A → Type 0) → (B → Type 0) → A × B → Type 0
Both P Q x = P x.0 × Q x.1

-- a property of each item of a list that is not empty
abbrev pub OfEach : {A : Type 0} → (A → Type 0) → List A → Type 0
OfEach Q xs = (xs ≢ []) × AllByRecursion Q xs

module _ (R : Terminal → Terminal → Type 0) (same_sort : (t u : Terminal) → R t u → u.sort ≡ t.sort) where
  -- a terminal, seen by a function that gives the same of both
  pub passes-one : {A : Type 0} (sort : Sort) (f g : Terminal → A) (Q : A → Type 0) → ((t u : Terminal) → R t u → t.sort ≡ sort → Q (f t) × (f t ≡ g u)) → Passes R (Mapped f (One sort)) (Mapped g (One sort)) Q
  passes-one sort f g Q h ts [] a rest pairs (t, (e, s), is) = absurd (subst (λ (x : List Terminal). ArePairs R x []) e pairs)
  passes-one sort f g Q h ts (u ∷ us) a rest pairs (t, (e, s), is) =
      let both : R t u × ArePairs R rest us = subst (λ (x : List Terminal). ArePairs R x (u ∷ us)) e pairs in
      let k = h t u both.0 s in
      (subst Q (sym is) k.0, (us, both.1, (u, (refl, same_sort t u both.0 ∙ s), is ∙ k.1)))

  pub passes-empty : {A : Type 0} (v : A) (Q : A → Type 0) → Q v → Passes R (Empty v) (Empty v) Q
  passes-empty v Q q ts us a rest pairs (e, s) = (subst Q (sym e) q, (us, subst (λ (x : List Terminal). ArePairs R x us) s pairs, (e, refl)))

  pub passes-mapped : {A B : Type 0} (f : A → B) (L M : Lang A) (P : A → Type 0) (Q : B → Type 0) → Passes R L M P → ((a : A) → P a → Q (f a)) → Passes R (Mapped f L) (Mapped f M) Q
  passes-mapped f L M P Q l h ts us b rest pairs (a, s, is) =
      let k = l ts us a rest pairs s in
      (subst Q (sym is) (h a k.0), (k.1.0, k.1.1, (a, k.1.2, is)))

  pub passes-weaker : {A : Type 0} (L M : Lang A) (P Q : A → Type 0) → Passes R L M P → ((a : A) → P a → Q a) → Passes R L M Q
  passes-weaker L M P Q l h ts us a rest pairs s = let k = l ts us a rest pairs s in (h a k.0, k.1)

  pub passes-then : {A B : Type 0} (L M : Lang A) (P : A → Type 0) (K N : Lang B) (Q : B → Type 0) → Passes R L M P → Passes R K N Q → Passes R (Then L K) (Then M N) (Both P Q)
  passes-then L M P K N Q l k ts us x rest pairs (mid, s, r) =
      let a = l ts us x.0 mid pairs s in
      let b = k mid a.1.0 x.1 rest a.1.1 r in
      ((a.0, b.0), (b.1.0, b.1.1, (a.1.0, a.1.2, b.1.2)))

  pub passes-either : {A : Type 0} (L M K N : Lang A) (Q : A → Type 0) → Passes R L M Q → Passes R K N Q → Passes R (Either L K) (Either M N) Q
  passes-either L M K N Q l k ts us a rest pairs (inl s) = let v = l ts us a rest pairs s in (v.0, (v.1.0, v.1.1, inl v.1.2))
  passes-either L M K N Q l k ts us a rest pairs (inr s) = let v = k ts us a rest pairs s in (v.0, (v.1.0, v.1.1, inr v.1.2))

  pub passes-optional : {A : Type 0} (L M : Lang A) (Q : A → Type 0) → Passes R L M Q → Passes R (Optional L) (Optional M) (OfSome Q)
  passes-optional {A = A} L M Q l =
      passes-either (Mapped Some L) (Mapped Some M) (Empty None) (Empty None) (OfSome Q) (passes-mapped Some L M Q (OfSome Q) l (λ a q. q)) (passes-empty {A = Option A} None (OfSome Q) tt)

  -- one terminal, whatever it is
  pub passes-mark : {B : Type 0} (sort : Sort) (L M : Lang B) (Q : B → Type 0) → Passes R L M Q → Passes R (After sort L) (After sort M) Q
  passes-mark sort L M Q l ts [] b rest pairs ((t, x), (mid, (e, s), r), is) = absurd (subst (λ (x : List Terminal). ArePairs R x []) e pairs)
  passes-mark sort L M Q l ts (u ∷ us) b rest pairs ((t, x), (mid, (e, s), r), is) =
      let both : R t u × ArePairs R mid us = subst (λ (x : List Terminal). ArePairs R x (u ∷ us)) e pairs in
      let k = l mid us x rest both.1 r in
      (subst Q (sym is) k.0, (k.1.0, k.1.1, ((u, x), (us, (refl, same_sort t u both.0 ∙ s), k.1.2), is)))

  end_mark : (sort : Sort) (mid us : List Terminal) (t : Terminal) (rest : List Terminal) → ArePairs R mid us → One sort mid t rest → (u : Terminal) × ((others : List Terminal) × ArePairs R rest others × One sort us u others)
  end_mark sort mid [] t rest pairs (e, s) = absurd (subst (λ (x : List Terminal). ArePairs R x []) e pairs)
  end_mark sort mid (u ∷ us) t rest pairs (e, s) =
      let both : R t u × ArePairs R rest us = subst (λ (x : List Terminal). ArePairs R x (u ∷ us)) e pairs in
      (u, (us, both.1, (refl, same_sort t u both.0 ∙ s)))

  pub passes-closed : {A : Type 0} (sort : Sort) (L M : Lang A) (Q : A → Type 0) → Passes R L M Q → Passes R (Closed L sort) (Closed M sort) Q
  passes-closed sort L M Q l ts us a rest pairs ((x, t), (mid, s, m), is) =
      let k = l ts us x mid pairs s in
      let v = end_mark sort mid k.1.0 t rest k.1.1 m in
      (subst Q (sym is) k.0, (v.1.0, v.1.1, ((x, v.0), (k.1.0, k.1.2, v.1.2), is)))

  pub passes-between : {A : Type 0} (first last : Sort) (L M : Lang A) (Q : A → Type 0) → Passes R L M Q → Passes R (Between first L last) (Between first M last) Q
  passes-between first last L M Q l = passes-mark first (Closed L last) (Closed M last) Q (passes-closed last L M Q l)

  pub passes-many : {A : Type 0} (L M : Lang A) (Q : A → Type 0) → Passes R L M Q → Passes R (Many L) (Many M) (AllByRecursion Q)
  passes-many L M Q l ts us [] rest pairs e = (tt, (us, subst (λ (x : List Terminal). ArePairs R x us) e pairs, refl))
  passes-many L M Q l ts us (x ∷ xs) rest pairs (mid, s, r) =
      let a = l ts us x mid pairs s in
      let b = passes-many L M Q l mid a.1.0 xs rest a.1.1 r in
      ((a.0, b.0), (b.1.0, b.1.1, (a.1.0, a.1.2, b.1.2)))

  -- such a list is not empty
  pub passes-separated : {A : Type 0} (sort : Sort) (L M : Lang A) (Q : A → Type 0) → Passes R L M Q → Passes R (Separated sort L) (Separated sort M) (OfEach Q)
  passes-separated {A = A} sort L M Q l =
      passes-mapped (λ (x : A × List A). x.0 ∷ x.1) (Then L (Many (After sort L))) (Then M (Many (After sort M))) (Both Q (AllByRecursion Q)) (OfEach Q)
      (passes-then L M Q (Many (After sort L)) (Many (After sort M)) (AllByRecursion Q) l (passes-many (After sort L) (After sort M) Q (passes-mark sort L M Q l)))
      (λ x q. ((λ e. absurd cc), q))

  pub passes-list_tail : {A : Type 0} (sort : Sort) (L M : Lang A) (Q : A → Type 0) → Passes R L M Q → Passes R (ListTail sort L) (ListTail sort M) (AllByRecursion Q)
  passes-list_tail sort L M Q l ts us a rest pairs ((xs, b), (mid, s, inl (t, m, eb)), is) =
      let k = passes-many (After sort L) (After sort M) Q (passes-mark sort L M Q l) ts us xs mid pairs s in
      let v = end_mark sort mid k.1.0 t rest k.1.1 m in
      (subst (AllByRecursion Q) (sym is) k.0, (v.1.0, v.1.1, ((xs, b), (k.1.0, k.1.2, inl (v.0, v.1.2, eb)), is)))
  passes-list_tail sort L M Q l ts us a rest pairs ((xs, b), (mid, s, inr (eb, em)), is) =
      let k = passes-many (After sort L) (After sort M) Q (passes-mark sort L M Q l) ts us xs mid pairs s in
      (subst (AllByRecursion Q) (sym is) k.0, (k.1.0, subst (λ (x : List Terminal). ArePairs R x k.1.0) em k.1.1, ((xs, b), (k.1.0, k.1.2, inr (eb, refl)), is)))

  pub passes-listed : {A : Type 0} (sort : Sort) (L M : Lang A) (Q : A → Type 0) → Passes R L M Q → Passes R (Listed sort L) (Listed sort M) (AllByRecursion Q)
  passes-listed {A = A} sort L M Q l =
      passes-either (Mapped (λ x. x.0 ∷ x.1) (Then L (ListTail sort L))) (Mapped (λ x. x.0 ∷ x.1) (Then M (ListTail sort M))) (Empty []) (Empty []) (AllByRecursion Q)
      (passes-mapped (λ (x : A × List A). x.0 ∷ x.1) (Then L (ListTail sort L)) (Then M (ListTail sort M)) (Both Q (AllByRecursion Q)) (AllByRecursion Q)
      (passes-then L M Q (ListTail sort L) (ListTail sort M) (AllByRecursion Q) l (passes-list_tail sort L M Q l)) (λ x q. q))
      (passes-empty {A = List A} [] (AllByRecursion Q) tt)
