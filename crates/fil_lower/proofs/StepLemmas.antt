-- One more element of a list that is gone through, and the greatest of some numbers.
use Rattle.std.proofs.Common.{◌≡◌, ℕ, ◌+◌, ◌<◌, ◌≤◌, ◌==◌, nat_lt, Bool, true, false, cond, max, List, [], ◌∷◌, ◌++◌, length, map, filter, flat_map, take, get_or, slice_get, Contains, All, Some, option_map, refl, sym, ap, subst, ◌∙◌, append_assoc, arith}
use Rattle.std.specs.List.{fold}
use Rattle.std.specs.Ordering.{is_lt, nat_cmp, ord_max}
use Rattle.std.specs.declared.cmp.Ordering.TheVariants.{Less, Equal, Greater}
use Rattle.std.proofs.lemmas.Bool.{ltb-false, ltb-true}
use Rattle.std.proofs.lemmas.List.{length-map, length-take, map-append, take_all}
use Rattle.std.proofs.lemmas.List.Concat.{flat_map-append}
use Rattle.std.proofs.lemmas.List.Elements.{All-contains, All-push, filter-append}
use Rattle.std.proofs.lemmas.List.Sums.{fold-append}
use Rattle.std.proofs.lemmas.Option.{slice_get-get_or, slice_get-map}
use Rattle.hw_names.proofs.NameLemmas.{same_number}
use Rattle.hw_names.specs.Name.{Text, AreDistinct}
use Rattle.fil_share.proofs.ListLemmas.{Contains-at, slice_get-take}
use Rattle.fil_share.proofs.MakesLemmas.{flat_next, take_next}
use Rattle.fil_share.specs.Uses.{Held, is_on}
use Rattle.fil_lower.specs.inside.Place.{greatest, wanted_by_uses}

-- past the last element all are taken
pub whole_taken : {X Y : Type 0} (f : X → Y) (xs ys : List X) (i : ℕ) → ys ≡ xs → length ys ≤ i → take i (map f xs) ≡ map f xs
whole_taken f xs ys i same past = take_all i (map f xs) (omega (arith, length-map xs f, ap length same, past))

pub All-next : {X : Type 0} (P : X → Type 0) (xs : List X) (i : ℕ) (x : X) → slice_get xs i ≡ Some x → All P (take i xs) → P x → All P (take (i + 1) xs)
All-next P xs i x at before here =
    let A : List _ → Type 0 = All P in
    subst A (sym (take_next xs i x at)) (All-push P (take i xs) x before here)

pub All-at : {X : Type 0} (P : X → Type 0) (xs : List X) (i : ℕ) (x : X) → slice_get xs i ≡ Some x → All P xs → P x
All-at P xs i x at all = All-contains P xs x all (Contains-at xs i x at)

-- what is made of the elements so far, with the next
pub map_next : {X Y : Type 0} (f : X → Y) (xs : List X) (i : ℕ) (x : X) → slice_get xs i ≡ Some x → map f (take (i + 1) xs) ≡ map f (take i xs) ++ f x ∷ []
map_next f xs i x at = ap (map f) (take_next xs i x at) ∙ map-append f (take i xs) (x ∷ [])

-- a name stands once
pub absent_before : (names : List Text) (n : ℕ) (text : Text) → AreDistinct names → slice_get names n ≡ Some text → ¬ Contains (take n names) text
absent_before names n text distinct at (k, within, is) =
    let there = slice_get-get_or (take n names) k text within ∙ ap Some is in
    let same : k ≡ n = same_number names k n text distinct (slice_get-take n names k text there) at in
    omega (arith, length-take n names, same, within)

-- ---- the greatest of some numbers

-- the greater of two, as `max` answers it
pub ord_max-max : (a b : ℕ) → ord_max nat_cmp a b ≡ max a b
ord_max-max a b = by (nat_lt b a) refl (b == a)
  where
    by : (x : Bool) → nat_lt b a ≡ x → (y : Bool) → cond (is_lt (cond x Less (cond y Equal Greater))) a b ≡ max a b
    by true is y = let below : b < a = ltb-true b a is in omega arith
    by false is true = let past : a ≤ b = ltb-false b a is in omega arith
    by false is false = let past : a ≤ b = ltb-false b a is in omega arith

greatest_from : (n : ℕ) (numbers : List ℕ) → fold max n numbers ≡ max n (greatest numbers)
greatest_from n [] = omega arith
greatest_from n (m ∷ numbers) =
    let first : fold max (max n m) numbers ≡ max (max n m) (greatest numbers) = greatest_from (max n m) numbers in
    let second : fold max (max 0 m) numbers ≡ max (max 0 m) (greatest numbers) = greatest_from (max 0 m) numbers in
    first ∙ sym (ap (max n) second ∙ omega arith)

pub greatest-append : (xs ys : List ℕ) → greatest (xs ++ ys) ≡ max (greatest xs) (greatest ys)
greatest-append xs ys = fold-append max 0 xs ys ∙ greatest_from (greatest xs) ys

-- with what one more element wants
pub greatest_next : {X : Type 0} (wants : X → List ℕ) (xs : List X) (i : ℕ) (x : X) (last here : ℕ) → slice_get xs i ≡ Some x
    → last ≡ greatest (flat_map wants (take i xs)) → here ≡ greatest (wants x) → max last here ≡ greatest (flat_map wants (take (i + 1) xs))
greatest_next wants xs i x last here at before is =
    let both : max last here ≡ max (greatest (flat_map wants (take i xs))) (greatest (wants x)) = omega (arith, before, is) in
    both ∙ sym (ap greatest (flat_next wants xs i x at) ∙ greatest-append (flat_map wants (take i xs)) (wants x))

-- with what one more use wants of an event
pub greatest_use : (event : Text) (helds : List Held) (i : ℕ) (h : Held) (last : ℕ) (on : Bool) → slice_get helds i ≡ Some h → is_on event h ≡ on
    → last ≡ greatest (wanted_by_uses event (take i helds)) → cond on (max last h.from) last ≡ greatest (wanted_by_uses event (take (i + 1) helds))
greatest_use event helds i h last on at is before =
    let so_far = wanted_by_uses event (take i helds) in
    let cut : wanted_by_uses event (take (i + 1) helds) ≡ so_far ++ wanted_by_uses event (h ∷ []) =
    ap (wanted_by_uses event) (take_next helds i h at) ∙ ap (map (λ (h : Held). h.from)) (filter-append (is_on event) (take i helds) (h ∷ [])) ∙ map-append (λ (h : Held). h.from) (filter (is_on event) (take i helds)) (filter (is_on event) (h ∷ [])) in
    by on is ∙ sym (ap greatest cut ∙ greatest-append so_far (wanted_by_uses event (h ∷ [])))
  where
    one : (b : Bool) → is_on event h ≡ b → greatest (wanted_by_uses event (h ∷ [])) ≡ cond b (max 0 h.from) 0
    one true is = ap (λ (c : Bool). greatest (map (λ (h : Held). h.from) (cond c (h ∷ []) []))) is
    one false is = ap (λ (c : Bool). greatest (map (λ (h : Held). h.from) (cond c (h ∷ []) []))) is

    by : (b : Bool) → is_on event h ≡ b → cond b (max last h.from) last ≡ max (greatest (wanted_by_uses event (take i helds))) (greatest (wanted_by_uses event (h ∷ [])))
    by true is = omega (arith, before, one true is)
    by false is = omega (arith, before, one false is)

-- an element that is read is at its place
pub some_read : {X : Type 0} (xs : List X) (i : ℕ) (d : X) → i < length xs → slice_get xs i ≡ Some (get_or xs i d)
some_read xs i d within = slice_get-get_or xs i d within

pub map_read : {X Y : Type 0} (f : X → Y) (xs : List X) (i : ℕ) (d : X) → i < length xs → slice_get (map f xs) i ≡ Some (f (get_or xs i d))
map_read f xs i d within = slice_get-map f xs i ∙ ap (option_map f) (slice_get-get_or xs i d within)

-- the same, where an element stands for several things that want
pub greatest_walk : {X Y : Type 0} (wants : Y → List ℕ) (things : X → List Y) (xs : List X) (i : ℕ) (x : X) (last here : ℕ) → slice_get xs i ≡ Some x
    → last ≡ greatest (flat_map wants (flat_map things (take i xs))) → here ≡ greatest (flat_map wants (things x)) → max last here ≡ greatest (flat_map wants (flat_map things (take (i + 1) xs)))
greatest_walk wants things xs i x last here at before is =
    let both : max last here ≡ max (greatest (flat_map wants (flat_map things (take i xs)))) (greatest (flat_map wants (things x))) = omega (arith, before, is) in
    both
    ∙ sym (ap (λ ys. greatest (flat_map wants ys)) (flat_next things xs i x at) ∙ ap greatest (flat_map-append wants (flat_map things (take i xs)) (things x))
    ∙ greatest-append (flat_map wants (flat_map things (take i xs))) (flat_map wants (things x)))

-- what is put last for an element that stands for several things
pub walk_next : {X Y Z : Type 0} (of : Y → List Z) (things : X → List Y) (xs : List X) (i : ℕ) (x : X) (old before after : List Z) → slice_get xs i ≡ Some x
    → before ≡ old ++ flat_map of (flat_map things (take i xs)) → after ≡ before ++ flat_map of (things x) → after ≡ old ++ flat_map of (flat_map things (take (i + 1) xs))
walk_next of things xs i x old before after at so_far here =
    here ∙ ap (λ zs. zs ++ flat_map of (things x)) so_far ∙ append_assoc old (flat_map of (flat_map things (take i xs))) (flat_map of (things x))
    ∙ ap (λ zs. old ++ zs) (sym (ap (flat_map of) (flat_next things xs i x at) ∙ flat_map-append of (flat_map things (take i xs)) (things x)))

-- the same, for an element that stands for itself
pub self_next : {X Z : Type 0} (of : X → List Z) (xs : List X) (i : ℕ) (x : X) (old before after : List Z) → slice_get xs i ≡ Some x
    → before ≡ old ++ flat_map of (take i xs) → after ≡ before ++ of x → after ≡ old ++ flat_map of (take (i + 1) xs)
self_next of xs i x old before after at so_far here =
    here ∙ ap (λ zs. zs ++ of x) so_far ∙ append_assoc old (flat_map of (take i xs)) (of x) ∙ ap (λ zs. old ++ zs) (sym (flat_next of xs i x at))
