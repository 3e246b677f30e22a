-- Of texts with a property that are among finitely many, one is the least by bytes.
use Rattle.std.proofs.Common.{◌≡◌, ◌≢◌, ◌⊎◌, inl, inr, List, [], ◌∷◌, false, refl, subst}
use Rattle.std.proofs.lemmas.Cmp.{nat_list_cmp_total}
use Rattle.std.specs.Cmp.{upto}
use Rattle.std.specs.Cmp.Lexicographic.{slice_cmp}
use Rattle.std.specs.Ordering.{nat_cmp, is_gt}
use Rattle.std.specs.declared.cmp.Ordering.{Ordering}
use Rattle.std.specs.declared.cmp.Ordering.TheVariants.{Less, Equal, Greater}
use Rattle.hw_graph.proofs.MemberLemmas.{In}
use Rattle.hw_graph.proofs.NameOrderLemmas.{itself, turned}
use Rattle.hw_names.specs.Name.{Text}
use Rattle.filc_laws.proofs.existence.Classical.{sure, next, by_cases}
use Rattle.filc_laws.specs.Classically.{Classically}

abbrev order : Text → Text → Ordering
order = slice_cmp nat_cmp

gt_is : (o : Ordering) → is_gt o ≡ false → o ≢ Greater
gt_is Less e = λ bad. cc
gt_is Equal e = λ bad. cc
gt_is Greater e = λ bad. cc

not_gt : (o : Ordering) → o ≢ Greater → is_gt o ≡ false
not_gt Less ne = refl
not_gt Equal ne = refl
not_gt Greater ne = absurd (ne refl)

at_most_trans : (x y z : Text) → order x y ≢ Greater → order y z ≢ Greater → order x z ≢ Greater
at_most_trans x y z le le' = gt_is (order x z) (upto nat_list_cmp_total x y z (not_gt (order x y) le) (not_gt (order y z) le'))

greater_or_not : (o : Ordering) → (o ≡ Greater) ⊎ (o ≢ Greater)
greater_or_not Less = inr (λ bad. cc)
greater_or_not Equal = inr (λ bad. cc)
greater_or_not Greater = inl refl

-- a text with the property, and none of these that has it is before this one
pub record LeastOf (P : Text → Type 0) (among : List Text) : Type 0 where
  pub text : Text
  pub has : P text
  pub least : (other : Text) → In among other → P other → order text other ≢ Greater

module _ (P : Text → Type 0) (first : Text) (among : List Text) (found : LeastOf P among) where
  -- one text more, which has the property and is before the one that was found
  earlier : P first → order found.text first ≡ Greater → LeastOf P (first ∷ among)
  earlier p greater = record {
    text = first;
    has = p;
    least = λ other within q. elim within [
      | inl same ↦ subst (λ (x : Text). order first x ≢ Greater) same (itself first)
      | inr later ↦ at_most_trans first found.text other (turned found.text first greater) (found.least other later q)
    ];
  }

  -- or isn't before it, if it has the property
  kept : (P first → order found.text first ≢ Greater) → LeastOf P (first ∷ among)
  kept lesser = record {
    text = found.text;
    has = found.has;
    least = λ other within q. elim within [
      | inl same ↦ subst (λ (x : Text). P x → order found.text x ≢ Greater) same lesser q
      | inr later ↦ found.least other later q
    ];
  }

  one_more : Classically (LeastOf P (first ∷ among))
  one_more =
      by_cases (P first)
      (λ p. elim (greater_or_not (order found.text first)) [ inl greater ↦ sure (earlier p greater) | inr lesser ↦ sure (kept (λ _. lesser)) ])
      (λ lacks. sure (kept (λ p. absurd (lacks p))))

pub least_of : (P : Text → Type 0) (among : List Text) (text : Text) → P text → Classically (LeastOf P among)
least_of P [] text p = sure (record { text = text; has = p; least = λ other within q. absurd within })
least_of P (first ∷ among) text p = next (least_of P among text p) (one_more P first among)
