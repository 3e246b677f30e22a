-- A search by name, in a list whose names differ: it finds the entry at the place of the name. And what a look-up by number gives.
use Rattle.std.proofs.Common.{◌≡◌, ◌↔◌, ℕ, zero, suc, ◌<◌, Bool, true, false, cond, List, [], ◌∷◌, ◌++◌, length, map, get_or, slice_get, Contains, Bor, Option, Some, None, Result, Ok, option_map, refl, sym, ap, subst, ◌∙◌, arith}
use Rattle.std.specs.List.{find}
use Rattle.std.specs.Option.{IfSome, option_copied}
use Rattle.std.specs.Slice.{IsItemAt}
use Rattle.std.specs.Str.{bytes_eq}
use Rattle.std.proofs.lemmas.Bool.{false_from_ne_true}
use Rattle.std.proofs.lemmas.Option.{none-some, same_Some, slice_get-map, slice_get_past, slice_get-get_or, slice_get_read, slice_get_within, get_or_from_slice_get}
use Rattle.std.proofs.lemmas.Slice.Eq.{bytes_eq-Decides}
use Rattle.hw_bits.specs.declared.memory.Memory.{Memory}
use Rattle.hw_names.specs.Name.{Text, AreDistinct}

pub same_name : (a b : Text) → a ≡ b → bytes_eq a b ≡ true
same_name a b same = (bytes_eq-Decides a b).1 same

pub other_name : (a b : Text) → (a ≡ b → ⊥) → bytes_eq a b ≡ false
other_name a b apart = false_from_ne_true (bytes_eq a b) (λ is. apart ((bytes_eq-Decides a b).0 is))

pub later_distinct : (name : Text) (names : List Text) → AreDistinct (name ∷ names) → AreDistinct names
later_distinct name names distinct i j d before within = distinct (suc i) (suc j) d (omega arith) (omega arith)

-- an entry's name is `name_of` it
module _ {X : Type 0} (name_of : X → Text) where
  find_here : (x : X) (xs : List X) (name : Text) → name_of x ≡ name → find (λ y. bytes_eq (name_of y) name) (x ∷ xs) ≡ Some x
  find_here x xs name same =
      ap (λ (b : Bool). cond b (Some x) (find (λ y. bytes_eq (name_of y) name) xs)) (same_name (name_of x) name same)

  find_later : (x : X) (xs : List X) (name : Text) → (name_of x ≡ name → ⊥) → find (λ y. bytes_eq (name_of y) name) (x ∷ xs) ≡ find (λ y. bytes_eq (name_of y) name) xs
  find_later x xs name apart =
      ap (λ (b : Bool). cond b (Some x) (find (λ y. bytes_eq (name_of y) name) xs)) (other_name (name_of x) name apart)

  at_place : (xs : List X) (name : Text) (i : ℕ) → AreDistinct (map name_of xs) → slice_get (map name_of xs) i ≡ Some name → find (λ y. bytes_eq (name_of y) name) xs ≡ slice_get xs i
  at_place [] name i distinct at = absurd (none-some name at)
  at_place (x ∷ xs) name zero distinct at = find_here x xs name (same_Some (name_of x) name at)
  at_place (x ∷ xs) name (suc i) distinct at =
      let below = slice_get_within (map name_of (x ∷ xs)) (suc i) name at in
      let apart : name_of x ≡ name → ⊥ = λ same. distinct 0 (suc i) name (omega arith) below (same ∙ sym (get_or_from_slice_get (map name_of xs) i name name at)) in
      find_later x xs name apart ∙ at_place xs name i (later_distinct (name_of x) (map name_of xs) distinct) at

  nowhere : (xs : List X) (name : Text) → (Contains (map name_of xs) name → ⊥) → find (λ y. bytes_eq (name_of y) name) xs ≡ None
  nowhere [] name absent = refl
  nowhere (x ∷ xs) name absent =
      find_later x xs name (λ same. absent (0, omega arith, same))
      ∙ nowhere xs name (λ (k, below, at). absent (suc k, omega arith, at))

  -- what the search finds, where the name has place i among the names
  pub find_at_place : (xs : List X) (names : List Text) (name : Text) (i : ℕ) → names ≡ map name_of xs → AreDistinct names → slice_get names i ≡ Some name → find (λ y. bytes_eq (name_of y) name) xs ≡ slice_get xs i
  find_at_place xs names name i are distinct at =
      let D : List Text → Type 0 = AreDistinct in
      at_place xs name i (subst D are distinct) (ap (λ ts. slice_get ts i) (sym are) ∙ at)

  -- and where the name is not there
  pub find_nowhere : (xs : List X) (names : List Text) (name : Text) → names ≡ map name_of xs → (Contains names name → ⊥) → find (λ y. bytes_eq (name_of y) name) xs ≡ None
  find_nowhere xs names name are absent =
      nowhere xs name (λ there. absent (subst (λ (ts : List Text). Contains ts name) (sym are) there))

-- what `get` answers, as a look-up
pub got : {X : Type 0} (xs : List X) (i : ℕ) (r : Option (Bor X)) → IsItemAt xs i r → option_copied r ≡ slice_get xs i
got xs i None h = sym (slice_get_past xs i h.3)
got xs i (Some x) h = sym (slice_get-get_or xs i x.now h.3.0 ∙ ap Some (sym h.1))

pub got_among : {X : Type 0} (xs : List X) (i : ℕ) (r : Option (Bor X)) → IsItemAt xs i r → IfSome r (λ (x : Bor X). Contains xs x.now)
got_among xs i None h = tt
got_among xs i (Some x) h = (i, h.3.0, sym h.1)

pub seen_copied : {X Y : Type 0} (f : X → Y) (r : Option (Bor X)) → option_map (λ (x : Bor X). f x.now) r ≡ option_map f (option_copied r)
seen_copied f None = refl
seen_copied f (Some x) = refl

-- nothing is found, so it is not there
pub not_found : (P : Type 0) → ((false ≡ true) ↔ P) → P → ⊥
not_found P iff p = let bad : false ≡ true = iff.1 p in absurd (cc)

-- a name that does not stand there is put last
pub name_added : (old new : List Text) (name : Text) (b : Bool) (r : Result Bool Memory) → r ≡ Ok b → ¬ Contains old name
    → (r ≡ Ok true → (¬ Contains old name) × (new ≡ old ++ name ∷ [])) → (r ≡ Ok false → Contains old name × (new ≡ old)) → new ≡ old ++ name ∷ []
name_added old new name true r is not_there added there = (added is).1
name_added old new name false r is not_there added there = absurd (not_there (there is).0)

-- what a mapped list has at a place
pub at_mapped : {X Y : Type 0} (f : X → Y) (xs ys : List X) (i : ℕ) (x : X) → ys ≡ xs → i < length ys → x ≡ get_or ys i x → slice_get (map f xs) i ≡ Some (f x)
at_mapped f xs ys i x same within is =
    slice_get-map f xs i ∙ ap (λ zs. option_map f (slice_get zs i)) (sym same) ∙ ap (option_map f) (slice_get_read ys (length ys) i x refl within is)
