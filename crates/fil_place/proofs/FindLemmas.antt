-- A search by name, in a list whose names differ: it finds the entry at the place of the name.
use Rattle.std.proofs.Common.{◌≡◌, ℕ, zero, suc, Bool, true, false, cond, List, [], ◌∷◌, map, slice_get, Contains, Some, None, refl, sym, ap, subst, ◌∙◌, arith}
use Rattle.std.specs.List.{find}
use Rattle.std.specs.Str.{bytes_eq}
use Rattle.std.proofs.lemmas.Bool.{false_from_ne_true}
use Rattle.std.proofs.lemmas.Option.{none-some, same_Some, slice_get_within, get_or_from_slice_get}
use Rattle.std.proofs.lemmas.Slice.Eq.{bytes_eq-Decides}
use Rattle.hw_names.specs.Name.{Text, AreDistinct}

same_name : (a b : Text) → a ≡ b → bytes_eq a b ≡ true
same_name a b same = (bytes_eq-Decides a b).1 same

other_name : (a b : Text) → (a ≡ b → ⊥) → bytes_eq a b ≡ false
other_name a b apart = false_from_ne_true (bytes_eq a b) (λ is. apart ((bytes_eq-Decides a b).0 is))

later_distinct : (name : Text) (names : List Text) → AreDistinct (name ∷ names) → AreDistinct names
later_distinct name names distinct i j d before within = distinct (suc i) (suc j) d (omega arith) (omega arith)

-- an entry's name is `name_of` it
module _ {X : Type 0} (name_of : X → Text) where
  find_here : (x : X) (xs : List X) (name : Text) → name_of x ≡ name → find (λ y. bytes_eq (name_of y) name) (x ∷ xs) ≡ Some x
  find_here x xs name same =
      ap (λ (b : Bool). cond b (Some x) (find (λ y. bytes_eq (name_of y) name) xs)) (same_name (name_of x) name same)

  find_later : (x : X) (xs : List X) (name : Text) → (name_of x ≡ name → ⊥) → find (λ y. bytes_eq (name_of y) name) (x ∷ xs) ≡ find (λ y. bytes_eq (name_of y) name) xs
  find_later x xs name apart =
      ap (λ (b : Bool). cond b (Some x) (find (λ y. bytes_eq (name_of y) name) xs)) (other_name (name_of x) name apart)

  at_place : (xs : List X) (name : Text) (i : ℕ) → AreDistinct (map name_of xs) → slice_get (map name_of xs) i ≡ Some name → find (λ y. bytes_eq (name_of y) name) xs ≡ slice_get xs i
  at_place [] name i distinct at = absurd (none-some name at)
  at_place (x ∷ xs) name zero distinct at = find_here x xs name (same_Some (name_of x) name at)
  at_place (x ∷ xs) name (suc i) distinct at =
      let below = slice_get_within (map name_of (x ∷ xs)) (suc i) name at in
      let apart : name_of x ≡ name → ⊥ = λ same. distinct 0 (suc i) name (omega arith) below (same ∙ sym (get_or_from_slice_get (map name_of xs) i name name at)) in
      find_later x xs name apart ∙ at_place xs name i (later_distinct (name_of x) (map name_of xs) distinct) at

  nowhere : (xs : List X) (name : Text) → (Contains (map name_of xs) name → ⊥) → find (λ y. bytes_eq (name_of y) name) xs ≡ None
  nowhere [] name absent = refl
  nowhere (x ∷ xs) name absent =
      find_later x xs name (λ same. absent (0, omega arith, same))
      ∙ nowhere xs name (λ (k, below, at). absent (suc k, omega arith, at))

  -- what the search finds, where the name has place i among the names
  pub find_at_place : (xs : List X) (names : List Text) (name : Text) (i : ℕ) → names ≡ map name_of xs → AreDistinct names → slice_get names i ≡ Some name → find (λ y. bytes_eq (name_of y) name) xs ≡ slice_get xs i
  find_at_place xs names name i are distinct at =
      let D : List Text → Type 0 = AreDistinct in
      at_place xs name i (subst D are distinct) (ap (λ ts. slice_get ts i) (sym are) ∙ at)

  -- and where the name is not there
  pub find_nowhere : (xs : List X) (names : List Text) (name : Text) → names ≡ map name_of xs → (Contains names name → ⊥) → find (λ y. bytes_eq (name_of y) name) xs ≡ None
  find_nowhere xs names name are absent =
      nowhere xs name (λ there. absent (subst (λ (ts : List Text). Contains ts name) (sym are) there))
