-- The lesser of two names by their bytes.
use Rattle.std.proofs.Common.{◌≡◌, ◌≢◌, ℕ, List, [], Some, false, refl, sym, ap, ◌∙◌, inl, inr, get_or}
use Rattle.std.proofs.lemmas.Cmp.{nat_list_cmp_total}
use Rattle.std.proofs.lemmas.Option.{get_or_from_slice_get}
use Rattle.std.specs.Cmp.{upto}
use Rattle.std.specs.Cmp.Lexicographic.{slice_cmp}
use Rattle.std.specs.Ordering.{nat_cmp, ordering_reverse, is_gt}
use Rattle.std.specs.Prelude.{slice_get}
use Rattle.std.specs.declared.cmp.Ordering.{Ordering}
use Rattle.std.specs.declared.cmp.Ordering.TheVariants.{Less, Equal, Greater}
use Rattle.hw_names.specs.Name.{Text}
use Rattle.hw_graph.specs.ByName.{IsLesser, IsAtMost}

abbrev order : Text → Text → Ordering
order = slice_cmp nat_cmp

not_its_reverse : (o : Ordering) → o ≡ ordering_reverse o → o ≢ Greater
not_its_reverse Less e = λ bad. cc
not_its_reverse Equal e = λ bad. cc
not_its_reverse Greater e = λ bad. cc

-- no name is greater than itself
pub itself : (x : Text) → order x x ≢ Greater
itself x = not_its_reverse (order x x) (nat_list_cmp_total.antisymm x x)

reverse_of : (o p : Ordering) → o ≡ Greater → p ≡ ordering_reverse o → p ≢ Greater
reverse_of Less p e q = λ bad. cc
reverse_of Equal p e q = λ bad. cc
reverse_of Greater p e q = λ bad. let less : p ≡ Less = q in cc

-- the other way round it is less
pub turned : (x y : Text) → order x y ≡ Greater → order y x ≢ Greater
turned x y e = reverse_of (order x y) (order y x) e (nat_list_cmp_total.antisymm y x)

module _ (names : List Text) (a b : ℕ) (x y : Text) (at : slice_get names a ≡ Some x) (at' : slice_get names b ≡ Some y) where
  by_names : (i j : ℕ) (u v : Text) → slice_get names i ≡ Some u → slice_get names j ≡ Some v → order u v ≢ Greater → IsAtMost names i j
  by_names i j u v is is' le e = le (sym (ap (λ w. order w v) (get_or_from_slice_get names i u [] is)) ∙ sym (ap (order (get_or names i [])) (get_or_from_slice_get names j v [] is')) ∙ e)

  pub is_lesser_second : order x y ≡ Greater → IsLesser names a b b
  is_lesser_second e = record { one = inr refl; first = by_names b a y x at' at (turned x y e); second = by_names b b y y at' at' (itself y) }

  pub is_lesser_first : order x y ≢ Greater → IsLesser names a b a
  is_lesser_first le = record { one = inl refl; first = by_names a a x x at at (itself x); second = by_names a b x y at at' le }

gt_is : (o : Ordering) → is_gt o ≡ false → o ≢ Greater
gt_is Less e = λ bad. cc
gt_is Equal e = λ bad. cc
gt_is Greater e = λ bad. cc

not_gt : (o : Ordering) → o ≢ Greater → is_gt o ≡ false
not_gt Less ne = refl
not_gt Equal ne = refl
not_gt Greater ne = absurd (ne refl)

-- a name at most another, which is at most a third
pub at_most_trans : (names : List Text) (a b c : ℕ) → IsAtMost names a b → IsAtMost names b c → IsAtMost names a c
at_most_trans names a b c le le' =
    gt_is (order (get_or names a []) (get_or names c []))
    (upto nat_list_cmp_total (get_or names a []) (get_or names b []) (get_or names c []) (not_gt (order (get_or names a []) (get_or names b [])) le) (not_gt (order (get_or names b []) (get_or names c [])) le'))

pub at_most_itself : (names : List Text) (a : ℕ) → IsAtMost names a a
at_most_itself names a = itself (get_or names a [])
