-- Lists: what holds of each element and of each two.
use Rattle.std.proofs.Common.{◌≡◌, ◌⊎◌, ℕ, zero, suc, ◌+◌, ◌<◌, List, [], ◌∷◌, ◌++◌, length, map, get_or, All, refl, sym, ap, ◌∙◌, subst, inl, inr, arith}
use Rattle.std.specs.Prelude.{AllPairs, Contains, flat_map, take, drop, slice_get, Some}
use Rattle.std.proofs.lemmas.Bool.{cases_lt}
use Rattle.std.proofs.lemmas.List.{get_or_default, get_or-map, get_or_append_left, get_or-append-add, length-map, length-append, take-append-drop, take_more}
use Rattle.std.proofs.Math.Seq.{get_or-append_seam}
use Rattle.std.proofs.lemmas.Option.{slice_get_within, get_or_from_slice_get}
use Rattle.std.proofs.lemmas.List.Elements.{All-nil, All-cons, All-head, All-tail, All-append, All-push, All-weaker, All-take, Contains-append_left, Contains-append_right, Contains-append_cases, Contains-push}
use Rattle.std.proofs.lemmas.List.Kept.{AllPairs-cons}

-- what holds of each two holds of an element and one after it
pair_at : {X : Type 0} (R : X → X → Type 0) (xs : List X) (a b : X) → AllPairs R xs → (i j : ℕ) → i < j → j < length xs → get_or xs i a ≡ a → get_or xs j b ≡ b → R a b
pair_at R xs a b all i j less within at_i at_j =
    subst (λ y. R a y) (get_or_default xs j a b within ∙ at_j) (subst (λ x. R x (get_or xs j a)) at_i (all i j a less within))

-- two elements are one, or one stands before the other
pub two_of : {X : Type 0} (R : X → X → Type 0) (xs : List X) (a b : X) → AllPairs R xs → Contains xs a → Contains xs b → (a ≡ b) ⊎ (R a b ⊎ R b a)
two_of R xs a b all has_a has_b =
    let i = has_a.0 in
    let j = has_b.0 in
    elim (cases_lt i j) [
      | inl less ↦ inr (inl (pair_at R xs a b all i j less has_b.1 has_a.2 has_b.2))
      | inr ge ↦ elim (cases_lt j i) [
        | inl more ↦ inr (inr (pair_at R xs b a all j i more has_a.1 has_b.2 has_a.2))
        | inr le ↦
            let same : i ≡ j = omega arith in
            inl (sym has_a.2 ∙ subst (λ k. get_or xs i a ≡ get_or xs k a) same refl ∙ get_or_default xs j a b has_b.1 ∙ has_b.2)
      ]
    ]

pub AllPairs-head : {X : Type 0} (R : X → X → Type 0) (x : X) (xs : List X) → AllPairs R (x ∷ xs) → All (R x) xs
AllPairs-head R x xs all k d within = all 0 (suc k) d (omega arith) (omega arith)

pub AllPairs-tail : {X : Type 0} (R : X → X → Type 0) (x : X) (xs : List X) → AllPairs R (x ∷ xs) → AllPairs R xs
AllPairs-tail R x xs all i j d less within = all (suc i) (suc j) d (omega arith) (omega arith)

pub AllPairs-append : {X : Type 0} (R : X → X → Type 0) (xs ys : List X) → AllPairs R xs → AllPairs R ys → All (λ x. All (R x) ys) xs → AllPairs R (xs ++ ys)
AllPairs-append {X} R [] ys left right across = right
AllPairs-append {X} R (x ∷ xs) ys left right across =
    let Q = λ (z : X). All (R z) ys in
    AllPairs-cons R x (xs ++ ys) (All-append (R x) xs ys (AllPairs-head R x xs left) (All-head Q x xs across))
    (AllPairs-append R xs ys (AllPairs-tail R x xs left) right (All-tail Q x xs across))

pub AllPairs-map : {X : Type 0} (R : X → X → Type 0) (f : X → X) (xs : List X) → AllPairs (λ a b. R (f a) (f b)) xs → AllPairs R (map f xs)
AllPairs-map R f xs all i j d less within =
    let j_in : j < length xs = omega (arith, length-map xs f) in
    let i_in : i < length xs = omega arith in
    subst (λ x. R x (get_or (map f xs) j d)) (sym (get_or-map f xs i d d i_in))
    (subst (λ y. R (f (get_or xs i d)) y) (sym (get_or-map f xs j d d j_in)) (all i j d less j_in))

pub All-flat_map : {X Y : Type 0} (P : Y → Type 0) (f : X → List Y) (xs : List X) → All (λ x. All P (f x)) xs → All P (flat_map f xs)
All-flat_map {X} P f [] all = All-nil P
All-flat_map {X} P f (x ∷ xs) all =
    let Q = λ (z : X). All P (f z) in
    All-append P (f x) (flat_map f xs) (All-head Q x xs all) (All-flat_map P f xs (All-tail Q x xs all))

pub All-left : {X : Type 0} (P : X → Type 0) (xs ys : List X) → All P (xs ++ ys) → All P xs
All-left P xs ys all k d within = subst P (get_or_append_left xs ys d k within) (all k d (omega (arith, length-append xs ys)))

pub All-right : {X : Type 0} (P : X → Type 0) (xs ys : List X) → All P (xs ++ ys) → All P ys
All-right P xs ys all k d within = subst P (get_or-append-add xs ys k d) (all (length xs + k) d (omega (arith, length-append xs ys)))

pub Contains-here : {X : Type 0} (x : X) (xs : List X) → Contains (x ∷ xs) x
Contains-here x xs = (0, omega arith, refl)

pub Contains-there : {X : Type 0} (x : X) (xs : List X) (y : X) → Contains xs y → Contains (x ∷ xs) y
Contains-there x xs y has = (suc has.0, omega (arith, has.1), has.2)

-- one more element before the last ones
inserted : {X : Type 0} (xs us : List X) (h x : X) → Contains (xs ++ us) x → Contains ((xs ++ h ∷ []) ++ us) x
inserted xs us h x has =
    elim (Contains-append_cases xs us x has) [
      | inl left ↦ Contains-append_left (xs ++ h ∷ []) us x (Contains-append_left xs (h ∷ []) x left)
      | inr right ↦ Contains-append_right (xs ++ h ∷ []) us x right
    ]

All-inserted : {X : Type 0} (P : X → Type 0) (xs us : List X) (h : X) → P h → All P (xs ++ us) → All P ((xs ++ h ∷ []) ++ us)
All-inserted P xs us h here all = All-append P (xs ++ h ∷ []) us (All-push P xs h (All-left P xs us all) here) (All-right P xs us all)

-- an element that is in order with all
abbrev pub Leads : {X : Type 0} → (X → X → Type 0) → List X → X → Type 0
Leads R xs x = Contains xs x × All (R x) xs

pub leads_still : {X : Type 0} (R : X → X → Type 0) (xs us : List X) (h x : X) → Leads R (xs ++ us) x → R x h → Leads R ((xs ++ h ∷ []) ++ us) x
leads_still R xs us h x leads before = (inserted xs us h x leads.0, All-inserted (R x) xs us h before leads.1)

pub leads_now : {X : Type 0} (R : X → X → Type 0) (xs us : List X) (h x : X) → ((a b c : X) → R a b → R b c → R a c) → R h h → Leads R (xs ++ us) x → R h x → Leads R ((xs ++ h ∷ []) ++ us) h
leads_now R xs us h x through self leads before = (
  Contains-append_left (xs ++ h ∷ []) us h (Contains-push xs h),
  All-inserted (R h) xs us h self (All-weaker (R x) (R h) (λ z after. through h x z before after) (xs ++ us) leads.1),
)

-- some element of a list that is not empty is in order with all
pub leader : {X : Type 0} (R : X → X → Type 0) → ((a b c : X) → R a b → R b c → R a c) → ((a b : X) → R a b ⊎ R b a) → (x : X) (xs : List X) → (y : X) × Leads R (x ∷ xs) y
leader R through total x [] = (x, (Contains-here x [], All-cons (R x) x [] (elim (total x x) [ inl h ↦ h | inr h ↦ h ]) (All-nil (R x))))
leader R through total x (y ∷ ys) =
    let m = leader R through total y ys in
    elim (total x m.0) [
      | inl before ↦ (x, (Contains-here x (y ∷ ys), All-cons (R x) x (y ∷ ys) (elim (total x x) [ inl h ↦ h | inr h ↦ h ]) (All-weaker (R m.0) (R x) (λ z after. through x m.0 z before after) (y ∷ ys) m.1.1)))
      | inr after ↦ (m.0, (Contains-there x (y ∷ ys) m.0 m.1.0, All-cons (R m.0) x (y ∷ ys) after m.1.1))
    ]

pub slice_get-take : {X : Type 0} (n : ℕ) (xs : List X) (k : ℕ) (x : X) → slice_get (take n xs) k ≡ Some x → slice_get xs k ≡ Some x
slice_get-take zero xs k x at = absurd (cc)
slice_get-take (suc n) [] k x at = absurd (cc)
slice_get-take (suc n) (y ∷ xs) zero x at = at
slice_get-take (suc n) (y ∷ xs) (suc k) x at = slice_get-take n xs k x at

pub Contains-take : {X : Type 0} (n : ℕ) (xs : List X) (x : X) → Contains (take n xs) x → Contains xs x
Contains-take n xs x has = subst (λ ys. Contains ys x) (take-append-drop n xs) (Contains-append_left (take n xs) (drop n xs) x has)

pub Contains-at : {X : Type 0} (xs : List X) (k : ℕ) (x : X) → slice_get xs k ≡ Some x → Contains xs x
Contains-at xs k x at = (k, slice_get_within xs k x at, get_or_from_slice_get xs k x x at)

-- the first elements and the next one
pub take_next : {X : Type 0} (xs : List X) (k : ℕ) (x : X) → slice_get xs k ≡ Some x → take (k + 1) xs ≡ take k xs ++ x ∷ []
take_next xs k x at = take_more xs k x (slice_get_within xs k x at) ∙ ap (λ y. take k xs ++ y ∷ []) (get_or_from_slice_get xs k x x at)

pub All-next : {X : Type 0} (P : X → Type 0) (xs : List X) (k : ℕ) (x : X) → slice_get xs k ≡ Some x → All P xs → All P (take k xs ++ x ∷ [])
All-next P xs k x at all = subst (All P) (take_next xs k x at) (All-take P (k + 1) xs all)

-- what holds of each two holds of each two of the first ones
pub AllPairs-left : {X : Type 0} (R : X → X → Type 0) (xs ys : List X) → AllPairs R (xs ++ ys) → AllPairs R xs
AllPairs-left R xs ys all i j d less within =
    let i_in : i < length xs = omega arith in
    subst (λ a. R a (get_or xs j d)) (get_or_append_left xs ys d i i_in)
    (subst (λ b. R (get_or (xs ++ ys) i d) b) (get_or_append_left xs ys d j within) (all i j d less (omega (arith, length-append xs ys))))

pub AllPairs-right : {X : Type 0} (R : X → X → Type 0) (xs ys : List X) → AllPairs R (xs ++ ys) → AllPairs R ys
AllPairs-right R [] ys all = all
AllPairs-right R (x ∷ xs) ys all = AllPairs-right R xs ys (AllPairs-tail R x (xs ++ ys) all)

pub AllPairs-last : {X : Type 0} (R : X → X → Type 0) (xs : List X) (y : X) → AllPairs R (xs ++ y ∷ []) → All (λ x. R x y) xs
AllPairs-last R xs y all k d within =
    subst (λ a. R a y) (get_or_append_left xs (y ∷ []) d k within)
    (subst (λ b. R (get_or (xs ++ y ∷ []) k d) b) (get_or-append_seam xs y [] d) (all k (length xs) d within (omega (arith, length-append xs (y ∷ [])))))

pub AllPairs-take : {X : Type 0} (R : X → X → Type 0) (n : ℕ) (xs : List X) → AllPairs R xs → AllPairs R (take n xs)
AllPairs-take R n xs all = AllPairs-left R (take n xs) (drop n xs) (subst (AllPairs R) (sym (take-append-drop n xs)) all)
