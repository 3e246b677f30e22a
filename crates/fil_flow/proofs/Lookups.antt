-- Look-ups by name: in a list whose names differ each name finds its own entry, and what is found in a list is found in a longer one.
use Rattle.std.proofs.Common.{◌≡◌, ℕ, zero, suc, Bool, true, false, cond, List, [], ◌∷◌, ◌++◌, map, slice_get, Contains, Some, None, refl, sym, ap, ap₂, ◌∙◌, arith}
use Rattle.std.specs.List.{find}
use Rattle.std.specs.Prelude.{if◌then◌else◌}
use Rattle.std.specs.Str.{bytes_eq}
use Rattle.std.proofs.lemmas.Bool.{false_from_ne_true}
use Rattle.std.proofs.lemmas.Option.{none-some, same_Some, slice_get_within, get_or_from_slice_get}
use Rattle.std.proofs.lemmas.Slice.Eq.{bytes_eq-Decides}
use Rattle.hw_names.specs.Name.{Text, AreDistinct}

pub same_name : (a b : Text) → a ≡ b → bytes_eq a b ≡ true
same_name a b same = (bytes_eq-Decides a b).1 same

pub other_name : (a b : Text) → (a ≡ b → ⊥) → bytes_eq a b ≡ false
other_name a b apart = false_from_ne_true (bytes_eq a b) (λ is. apart ((bytes_eq-Decides a b).0 is))

pub later_distinct : (name : Text) (names : List Text) → AreDistinct (name ∷ names) → AreDistinct names
later_distinct name names distinct i j d before within = distinct (suc i) (suc j) d (omega arith) (omega arith)

pub first_differs : (name : Text) (names : List Text) (other : Text) → AreDistinct (name ∷ names) → Contains names other → name ≡ other → ⊥
first_differs name names other distinct (k, within, at) same = distinct 0 (suc k) other (omega arith) (omega arith) (same ∙ sym at)

-- functions that agree on the elements of a list
pub map_agree : {X Y : Type 0} (f g : X → Y) (xs : List X) → ((x : X) → Contains xs x → f x ≡ g x) → map f xs ≡ map g xs
map_agree f g [] same = refl
map_agree f g (x ∷ xs) same =
    ap₂ ◌∷◌ (same x (zero, omega arith, refl)) (map_agree f g xs (λ y (k, within, at). same y (suc k, omega arith, at)))

-- a look-up that tests the first entry's name, or goes on
module _ {X R : Type 0} (name_of : X → Text) (F : List X → Text → R) (found : X → R) (step : (x : X) (xs : List X) (name : Text) → F (x ∷ xs) name ≡ (if bytes_eq (name_of x) name then found x else F xs name)) where
  pub each_found : (xs : List X) → AreDistinct (map name_of xs) → map (F xs) (map name_of xs) ≡ map found xs
  each_found [] distinct = refl
  each_found (x ∷ xs) distinct =
      ap₂ ◌∷◌ (step x xs (name_of x) ∙ ap (λ (b : Bool). cond b (found x) (F xs (name_of x))) (same_name (name_of x) (name_of x) refl))
      (map_agree (F (x ∷ xs)) (F xs) (map name_of xs) (λ name there.
      step x xs name ∙ ap (λ (b : Bool). cond b (found x) (F xs name)) (other_name (name_of x) name (first_differs (name_of x) (map name_of xs) name distinct there)))
      ∙ each_found xs (later_distinct (name_of x) (map name_of xs) distinct))

module _ {X : Type 0} (test : X → Bool) where
  -- what is found stays the first of a longer list
  pub find_kept : (xs ys : List X) (x : X) → find test xs ≡ Some x → find test (xs ++ ys) ≡ Some x
  find_kept [] ys x is = absurd (none-some x is)
  find_kept (y ∷ xs) ys x is = by (test y) (λ e. find_kept xs ys x e) is
    where
      by : (b : Bool) → (find test xs ≡ Some x → find test (xs ++ ys) ≡ Some x) → cond b (Some y) (find test xs) ≡ Some x → cond b (Some y) (find test (xs ++ ys)) ≡ Some x
      by true later e = e
      by false later e = later e

  -- what is not found there is looked for in the rest
  pub find_last : (xs : List X) (x : X) → find test xs ≡ None → test x ≡ true → find test (xs ++ x ∷ []) ≡ Some x
  find_last [] x none is = ap (λ (b : Bool). cond b (Some x) None) is
  find_last (y ∷ xs) x none is = by (test y) (λ e. find_last xs x e is) none
    where
      by : (b : Bool) → (find test xs ≡ None → find test (xs ++ x ∷ []) ≡ Some x) → cond b (Some y) (find test xs) ≡ None → cond b (Some y) (find test (xs ++ x ∷ [])) ≡ Some x
      by true later e = absurd (none-some y (sym e))
      by false later e = later e

-- what is found is there
pub find_contains : {X : Type 0} (test : X → Bool) (xs : List X) (x : X) → find test xs ≡ Some x → Contains xs x
find_contains test [] x is = absurd (none-some x is)
find_contains test (y ∷ xs) x is = by (test y) is (λ e. find_contains test xs x e)
  where
    by : (b : Bool) → cond b (Some y) (find test xs) ≡ Some x → (find test xs ≡ Some x → Contains xs x) → Contains (y ∷ xs) x
    by true e later = (zero, omega arith, same_Some y x e)
    by false e later = let (k, within, at) = later e in (suc k, omega arith, at)

module _ {X : Type 0} (name_of : X → Text) where
  find_here : (x : X) (xs : List X) (name : Text) → name_of x ≡ name → find (λ y. bytes_eq (name_of y) name) (x ∷ xs) ≡ Some x
  find_here x xs name same =
      ap (λ (b : Bool). cond b (Some x) (find (λ y. bytes_eq (name_of y) name) xs)) (same_name (name_of x) name same)

  find_later : (x : X) (xs : List X) (name : Text) → (name_of x ≡ name → ⊥) → find (λ y. bytes_eq (name_of y) name) (x ∷ xs) ≡ find (λ y. bytes_eq (name_of y) name) xs
  find_later x xs name apart =
      ap (λ (b : Bool). cond b (Some x) (find (λ y. bytes_eq (name_of y) name) xs)) (other_name (name_of x) name apart)

  -- a name that has place i finds the entry there
  pub find_at_place : (xs : List X) (name : Text) (i : ℕ) → AreDistinct (map name_of xs) → slice_get (map name_of xs) i ≡ Some name → find (λ y. bytes_eq (name_of y) name) xs ≡ slice_get xs i
  find_at_place [] name i distinct at = absurd (none-some name at)
  find_at_place (x ∷ xs) name zero distinct at = find_here x xs name (same_Some (name_of x) name at)
  find_at_place (x ∷ xs) name (suc i) distinct at =
      let below = slice_get_within (map name_of (x ∷ xs)) (suc i) name at in
      let apart : name_of x ≡ name → ⊥ = λ same. distinct 0 (suc i) name (omega arith) below (same ∙ sym (get_or_from_slice_get (map name_of xs) i name name at)) in
      find_later x xs name apart ∙ find_at_place xs name i (later_distinct (name_of x) (map name_of xs) distinct) at

  -- a name that is not there finds nothing
  pub find_nowhere : (xs : List X) (name : Text) → (Contains (map name_of xs) name → ⊥) → find (λ y. bytes_eq (name_of y) name) xs ≡ None
  find_nowhere [] name absent = refl
  find_nowhere (x ∷ xs) name absent =
      find_later x xs name (λ same. absent (0, omega arith, same))
      ∙ find_nowhere xs name (λ (k, below, at). absent (suc k, omega arith, at))

  -- an entry that is found has the name
  pub find_named : (xs : List X) (name : Text) (x : X) → find (λ y. bytes_eq (name_of y) name) xs ≡ Some x → Contains (map name_of xs) name
  find_named [] name x is = absurd (none-some x is)
  find_named (y ∷ xs) name x is = by (bytes_eq (name_of y) name) refl is (λ e. find_named xs name x e)
    where
      by : (b : Bool) → bytes_eq (name_of y) name ≡ b → cond b (Some y) (find (λ z. bytes_eq (name_of z) name) xs) ≡ Some x
          → (find (λ z. bytes_eq (name_of z) name) xs ≡ Some x → Contains (map name_of xs) name) → Contains (map name_of (y ∷ xs)) name
      by true same e later = (zero, omega arith, (bytes_eq-Decides (name_of y) name).0 same)
      by false same e later = let (k, within, at) = later e in (suc k, omega arith, at)
