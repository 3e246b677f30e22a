-- Lists, pairs and tests.
use Rattle.std.proofs.Common.{◌≡◌, ℕ, zero, suc, ◌+◌, ◌<◌, Bool, true, false, ◌↔◌, List, [], ◌∷◌, length, map, slice_get, get_or, Contains, Some, option_map, refl, sym, ap, ◌∙◌, arith, ◌++◌, Result, Ok, subst₂, length-append}
use Rattle.std.specs.Bool.{IsTrue}
use Rattle.std.specs.List.{AllPairs}
use Rattle.std.proofs.lemmas.List.{get_or_append_left}
use Rattle.std.proofs.lemmas.Option.{same_Some, slice_get-map, slice_get_read}
use Rattle.hw_names.specs.Name.{Text}
use Rattle.fil_sig.proofs.ListLemmas.{told_false}
use Rattle.hw_bits.specs.declared.memory.Memory.{Memory}

pub clash : (b : Bool) → b ≡ true → b ≡ false → ⊥
clash b t f = let bad : true ≡ false = sym t ∙ f in absurd (cc)

-- a test that failed
pub told_no : (P : Type 0) (b : Bool) → b ≡ false → (P → ⊥) → IsTrue b ↔ P
told_no P true e refuted = absurd (cc)
told_no P false e refuted = told_false P refuted

-- the element behind one of a mapped list
pub unmapped : {X Y : Type 0} (f : X → Y) (xs : List X) (k : ℕ) (y : Y) → slice_get (map f xs) k ≡ Some y → (x : X) × (slice_get xs k ≡ Some x) × (f x ≡ y)
unmapped f [] k y e = absurd (cc)
unmapped f (x ∷ xs) zero y e = (x, refl, same_Some (f x) y e)
unmapped f (x ∷ xs) (suc k) y e = unmapped f xs k y e

pub mapped_at : {X Y : Type 0} (f : X → Y) (xs : List X) (k : ℕ) (x : X) → slice_get xs k ≡ Some x → slice_get (map f xs) k ≡ Some (f x)
mapped_at f xs k x at = slice_get-map f xs k ∙ ap (option_map f) at

pub at_left : {X : Type 0} (xs ys : List X) (k : ℕ) (x : X) → slice_get xs k ≡ Some x → slice_get (xs ++ ys) k ≡ Some x
at_left [] ys k x at = absurd (cc)
at_left (z ∷ xs) ys zero x at = at
at_left (z ∷ xs) ys (suc k) x at = at_left xs ys k x at

pub at_right : {X : Type 0} (xs ys : List X) (k : ℕ) (y : X) → slice_get ys k ≡ Some y → slice_get (xs ++ ys) (length xs + k) ≡ Some y
at_right [] ys k y at = let e : k ≡ 0 + k = omega arith in ap (slice_get ys) (sym e) ∙ at
at_right (z ∷ xs) ys k y at =
    let e : length (z ∷ xs) + k ≡ suc (length xs + k) = omega arith in
    ap (slice_get (z ∷ xs ++ ys)) e ∙ at_right xs ys k y at

pairs_tail : {X : Type 0} (R : X → X → Type 0) (x : X) (xs : List X) → AllPairs R (x ∷ xs) → AllPairs R xs
pairs_tail R x xs pairs i j d less below = pairs (suc i) (suc j) d (omega arith) (omega arith)

pub pairs_back : {X : Type 0} (R : X → X → Type 0) (xs ys : List X) → AllPairs R (xs ++ ys) → AllPairs R ys
pairs_back R [] ys pairs = pairs
pairs_back R (x ∷ xs) ys pairs = pairs_back R xs ys (pairs_tail R x (xs ++ ys) pairs)

pub pairs_front : {X : Type 0} (R : X → X → Type 0) (xs ys : List X) → AllPairs R (xs ++ ys) → AllPairs R xs
pairs_front R xs ys pairs i j d less below =
    subst₂ R (get_or_append_left xs ys d i (omega (arith, less, below))) (get_or_append_left xs ys d j below) (pairs i j d less (omega (arith, below, length-append xs ys)))

-- a name that does not stand there is put last
pub name_added : (old new : List Text) (name : Text) (b : Bool) (r : Result Bool Memory) → r ≡ Ok b → ¬ Contains old name
    → (r ≡ Ok true → (¬ Contains old name) × (new ≡ old ++ name ∷ [])) → (r ≡ Ok false → Contains old name × (new ≡ old)) → new ≡ old ++ name ∷ []
name_added old new name true r is not_there added there = (added is).1
name_added old new name false r is not_there added there = absurd (not_there (there is).0)

-- the tree of what a list has at a place
pub at_mapped : {X Y : Type 0} (f : X → Y) (xs ys : List X) (i : ℕ) (x : X) → ys ≡ xs → i < length ys → x ≡ get_or ys i x → slice_get (map f xs) i ≡ Some (f x)
at_mapped f xs ys i x same within is =
    slice_get-map f xs i ∙ ap (λ zs. option_map f (slice_get zs i)) (sym same) ∙ ap (option_map f) (slice_get_read ys (length ys) i x refl within is)
