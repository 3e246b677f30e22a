-- One more element of a list that is gone through.
use Rattle.std.proofs.Common.{◌≡◌, ℕ, ◌+◌, ◌<◌, ◌≤◌, List, [], ◌∷◌, ◌++◌, length, map, flat_map, take, drop, get_or, All, Some, sym, ap, subst, ◌∙◌}
use Rattle.std.specs.Prelude.{slice_get}
use Rattle.std.proofs.lemmas.List.{append-nil, drop_more, map-append, take_all, take_more}
use Rattle.std.proofs.lemmas.List.Concat.{flat_map-append}
use Rattle.std.proofs.lemmas.List.Elements.{All-push, All-same}
use Rattle.std.proofs.lemmas.Option.{slice_get-get_or, slice_get_within, get_or_from_slice_get}

-- the element that a loop or an index has
pub at_index : {X : Type 0} (xs : List X) (k : ℕ) (x : X) → k < length xs → x ≡ get_or xs k x → slice_get xs k ≡ Some x
at_index xs k x within is = slice_get-get_or xs k x within ∙ ap Some (sym is)

pub one_more : {X : Type 0} (xs : List X) (k : ℕ) (x : X) → slice_get xs k ≡ Some x → take (k + 1) xs ≡ take k xs ++ x ∷ []
one_more xs k x at = take_more xs k x (slice_get_within xs k x at) ∙ ap (λ y. take k xs ++ y ∷ []) (get_or_from_slice_get xs k x x at)

pub map_next : {X Y : Type 0} (f : X → Y) (xs : List X) (k : ℕ) (x : X) → slice_get xs k ≡ Some x → map f (take (k + 1) xs) ≡ map f (take k xs) ++ f x ∷ []
map_next f xs k x at = ap (map f) (one_more xs k x at) ∙ map-append f (take k xs) (x ∷ [])

pub flat_next : {X Y : Type 0} (f : X → List Y) (xs : List X) (k : ℕ) (x : X) → slice_get xs k ≡ Some x → flat_map f (take (k + 1) xs) ≡ flat_map f (take k xs) ++ f x
flat_next f xs k x at =
    ap (flat_map f) (one_more xs k x at) ∙ flat_map-append f (take k xs) (x ∷ []) ∙ ap (λ ys. flat_map f (take k xs) ++ ys) (append-nil (f x))

pub All-next : {X : Type 0} (P : X → Type 0) (xs : List X) (k : ℕ) (x : X) → slice_get xs k ≡ Some x → All P (take k xs) → P x → All P (take (k + 1) xs)
All-next P xs k x at before here =
    let A : List _ → Type 0 = All P in
    subst A (sym (one_more xs k x at)) (All-push P (take k xs) x before here)

-- past the last element all are taken
pub whole_taken : {X Y : Type 0} (f : X → Y) (xs ys : List X) (k : ℕ) → ys ≡ xs → length ys ≤ k → map f (take k ys) ≡ map f xs
whole_taken f xs ys k same past = ap (map f) (take_all k ys past ∙ same)

-- what is left of the list, and the next of it
pub drop_next : {X : Type 0} (xs : List X) (k : ℕ) (x : X) → slice_get xs k ≡ Some x → drop k xs ≡ x ∷ drop (k + 1) xs
drop_next xs k x at = drop_more xs k x (slice_get_within xs k x at) ∙ ap (λ y. y ∷ drop (k + 1) xs) (get_or_from_slice_get xs k x x at)

pub All-at : {X : Type 0} (P : X → Type 0) (xs : List X) (k : ℕ) (x : X) → slice_get xs k ≡ Some x → All P xs → P x
All-at P xs k x at all = subst P (get_or_from_slice_get xs k x x at) (all k x (slice_get_within xs k x at))

-- an element that a loop has of a vector
pub all_at : {X : Type 0} (P : X → Type 0) (xs items : List X) (i : ℕ) (x : X) → items ≡ xs → All P xs → i < length items → x ≡ get_or items i x → P x
all_at P xs items i x same all within is = subst P (sym is) (All-same P items xs same all i x within)
