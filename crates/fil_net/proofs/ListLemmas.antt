-- What holds of each member of a list that is made of lists.
use Rattle.std.proofs.Common.{◌+◌, List, [], ◌∷◌, ◌++◌, length, flat_map, All, subst, length-append, arith}
use Rattle.std.proofs.lemmas.List.{get_or-append-add, get_or_append_left}
use Rattle.std.proofs.lemmas.List.Elements.{All-append, All-head, All-nil, All-tail}

pub All-flat : {X Y : Type 0} (P : Y → Type 0) (f : X → List Y) (xs : List X) → All (λ (x : X). All P (f x)) xs → All P (flat_map f xs)
All-flat P f [] all = All-nil P
All-flat {X} P f (x ∷ xs) all =
    let Q : X → Type 0 = λ y. All P (f y) in
    All-append P (f x) (flat_map f xs) (All-head Q x xs all) (All-flat P f xs (All-tail Q x xs all))

pub All-left : {X : Type 0} (P : X → Type 0) (xs ys : List X) → All P (xs ++ ys) → All P xs
All-left P xs ys all k d within = subst P (get_or_append_left xs ys d k within) (all k d (omega (arith, length-append xs ys)))

pub All-right : {X : Type 0} (P : X → Type 0) (xs ys : List X) → All P (xs ++ ys) → All P ys
All-right P xs ys all k d within = subst P (get_or-append-add xs ys k d) (all (length xs + k) d (omega (arith, length-append xs ys)))
