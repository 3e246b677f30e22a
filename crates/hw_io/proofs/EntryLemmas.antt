-- Lists of entries with names, in which a name means the first entry that has it.
use Rattle.std.proofs.Common.{◌≡◌, ◌≢◌, ℕ, zero, suc, ◌<◌, ◌≤◌, Bool, true, false, cond, nat_lt, List, [], ◌∷◌, length, get_or, set, map, find, position, Option, None, Some, Contains, refl, sym, ap, subst, ◌∙◌, arith}
use Rattle.std.specs.List.{position_or_len, slice_get}
use Rattle.std.specs.Option.{option_map, option_map_or}
use Rattle.std.specs.Str.{bytes_eq}
use Rattle.std.proofs.lemmas.List.{get_or-map, length-map}
use Rattle.std.proofs.lemmas.List.Folds.{find_at, find-set, find_past}
use Rattle.std.proofs.lemmas.List.Quantifiers.{position-Some}
use Rattle.std.proofs.lemmas.Slice.Eq.{bytes_eq-Decides}
use Rattle.std.proofs.lemmas.Grind.{common_steps}

place_of_some : (b : Bool) (m i : ℕ) → cond b (Some m) None ≡ Some i → i ≡ m
place_of_some true m i e = cc
place_of_some false m i e = absurd (cc)

pub place_is : {X : Type 0} (p : X → Bool) (xs : List X) (i : ℕ) → position p xs ≡ Some i → i ≡ position_or_len p xs
place_is p xs i e = place_of_some _ (position_or_len p xs) i e

slice_get_within : {X : Type 0} (xs : List X) (i : ℕ) (d : X) → i < length xs → slice_get xs i ≡ Some (get_or xs i d)
slice_get_within [] i d within = absurd (omega arith)
slice_get_within (x ∷ xs) zero d within = refl
slice_get_within (x ∷ xs) (suc i) d within = slice_get_within xs i d (omega arith)

slice_get_past : {X : Type 0} (xs : List X) (i : ℕ) → length xs ≤ i → slice_get xs i ≡ None
slice_get_past [] i past = refl
slice_get_past (x ∷ xs) zero past = absurd (omega arith)
slice_get_past (x ∷ xs) (suc i) past = slice_get_past xs i (omega arith)

past_of_none : (m n k : ℕ) → cond (nat_lt m n) (Some k) None ≡ None → n ≤ m
past_of_none m n k e = grind (arith, common_steps, e)

pub find_at_place : {X : Type 0} (p : X → Bool) (xs : List X) (i : ℕ) (d : X) → position p xs ≡ Some i → find p xs ≡ Some (get_or xs i d)
find_at_place p xs i d e =
    let within : i < length xs = (position-Some p xs i d e).0 in
    let here : i ≡ position_or_len p xs = place_is p xs i e in
    find_at p xs ∙ slice_get_within xs (position_or_len p xs) d (subst (λ k. k < length xs) here within) ∙ ap (λ k. Some (get_or xs k d)) (sym here)

pub find_without_place : {X : Type 0} (p : X → Bool) (xs : List X) → position p xs ≡ None → find p xs ≡ None
find_without_place p xs e = find_at p xs ∙ slice_get_past xs (position_or_len p xs) (past_of_none _ _ (position_or_len p xs) e)

-- an element in the place of one that passes the same test and shows the same
find_alike_cons : {X Y : Type 0} (g : X → Y) (b c : Bool) (x y : X) (rest : Option X) → b ≡ c → g x ≡ g y → option_map g (cond b (Some x) rest) ≡ option_map g (cond c (Some y) rest)
find_alike_cons g true true x y rest e h = ap Some h
find_alike_cons g true false x y rest e h = absurd (cc)
find_alike_cons g false true x y rest e h = absurd (cc)
find_alike_cons g false false x y rest e h = refl

find_alike_rest : {X Y : Type 0} (g : X → Y) (b : Bool) (x : X) (rest rest' : Option X) → option_map g rest ≡ option_map g rest' → option_map g (cond b (Some x) rest) ≡ option_map g (cond b (Some x) rest')
find_alike_rest g true x rest rest' h = refl
find_alike_rest g false x rest rest' h = h

pub find_alike : {X Y : Type 0} (p : X → Bool) (g : X → Y) (xs : List X) (i : ℕ) (y d : X) → p y ≡ p (get_or xs i d) → g y ≡ g (get_or xs i d) → option_map g (find p (set xs i y)) ≡ option_map g (find p xs)
find_alike p g [] i y d e h = refl
find_alike p g (x ∷ xs) zero y d e h = find_alike_cons g (p y) (p x) y x (find p xs) e h
find_alike p g (x ∷ xs) (suc i) y d e h = find_alike_rest g (p x) x (find p (set xs i y)) (find p xs) (find_alike p g xs i y d e h)

pub map_alike : {X Y : Type 0} (g : X → Y) (xs : List X) (i : ℕ) (y d : X) → g y ≡ g (get_or xs i d) → map g (set xs i y) ≡ map g xs
map_alike g [] i y d h = refl
map_alike g (x ∷ xs) zero y d h = ap (λ z. z ∷ map g xs) h
map_alike g (x ∷ xs) (suc i) y d h = ap (λ zs. g x ∷ zs) (map_alike g xs i y d h)

not_true : (b : Bool) → (b ≡ true → ⊥) → b ≡ false
not_true true never = absurd (never refl)
not_true false never = refl

differs : (a b : List ℕ) → a ≢ b → bytes_eq a b ≡ false
differs a b apart = not_true (bytes_eq a b) (λ yes. apart ((bytes_eq-Decides a b).0 yes))

-- the name is that of the entry at its place
pub name_at_place : {X : Type 0} (name_of : X → List ℕ) (xs : List X) (name : List ℕ) (i : ℕ) (d : X) → position (λ x. bytes_eq (name_of x) name) xs ≡ Some i → name_of (get_or xs i d) ≡ name
name_at_place name_of xs name i d e = (bytes_eq-Decides (name_of (get_or xs i d)) name).0 (position-Some (λ x. bytes_eq (name_of x) name) xs i d e).1

pub known_at_place : {X : Type 0} (name_of : X → List ℕ) (xs : List X) (name : List ℕ) (i : ℕ) (d : X) → position (λ x. bytes_eq (name_of x) name) xs ≡ Some i → Contains (map name_of xs) name
known_at_place name_of xs name i d e =
    let within : i < length xs = (position-Some (λ x. bytes_eq (name_of x) name) xs i d e).0 in
    (i, rw length-map within, get_or-map name_of xs i d name within ∙ name_at_place name_of xs name i d e)

absent_cons : {X : Type 0} (b : Bool) (x : X) (rest : Option X) → cond b (Some x) rest ≡ None → (b ≡ false) × (rest ≡ None)
absent_cons true x rest e = absurd (cc)
absent_cons false x rest e = (refl, e)

absent : {X : Type 0} (name_of : X → List ℕ) (xs : List X) (name : List ℕ) → find (λ x. bytes_eq (name_of x) name) xs ≡ None → (k : ℕ) → k < length xs → get_or (map name_of xs) k name ≡ name → ⊥
absent name_of [] name e k within here = omega arith
absent name_of (x ∷ xs) name e zero within here =
    let fails = (absent_cons (bytes_eq (name_of x) name) x (find (λ z. bytes_eq (name_of z) name) xs) e).0 in
    let yes : bytes_eq (name_of x) name ≡ true = (bytes_eq-Decides (name_of x) name).1 here in
    (cc)
absent name_of (x ∷ xs) name e (suc k) within here = absent name_of xs name (absent_cons (bytes_eq (name_of x) name) x (find (λ z. bytes_eq (name_of z) name) xs) e).1 k (omega arith) here

pub unknown_without_place : {X : Type 0} (name_of : X → List ℕ) (xs : List X) (name : List ℕ) → position (λ x. bytes_eq (name_of x) name) xs ≡ None → ¬ Contains (map name_of xs) name
unknown_without_place name_of xs name e known =
    absent name_of xs name (find_without_place _ xs e) known.0 (rw length-map at known.1) known.2

-- an entry in the place of the first one with a name, whose name is the same and whose count is another
pub names_raised : {X : Type 0} (name_of : X → List ℕ) (xs : List X) (i : ℕ) (x y : X) → x ≡ get_or xs i x → name_of y ≡ name_of x → map name_of (set xs i y) ≡ map name_of xs
names_raised name_of xs i x y here alike = map_alike name_of xs i y x (alike ∙ ap name_of here)

pub others_raised : {X : Type 0} (name_of : X → List ℕ) (count : X → ℕ) (xs : List X) (name other : List ℕ) (i : ℕ) (x y : X) → position (λ z. bytes_eq (name_of z) name) xs ≡ Some i → x ≡ get_or xs i x → name_of y ≡ name_of x → other ≢ name → option_map_or count (find (λ z. bytes_eq (name_of z) other) (set xs i y)) 0 ≡ option_map_or count (find (λ z. bytes_eq (name_of z) other) xs) 0
others_raised name_of count xs name other i x y at here alike apart =
    let named : name_of (get_or xs i x) ≡ name = name_at_place name_of xs name i x at in
    ap (λ found. option_map_or count found 0) (find_past (λ z. bytes_eq (name_of z) other) xs i y x
    (differs (name_of (get_or xs i x)) other (λ same. apart (sym same ∙ named)))
    (differs (name_of y) other (λ same. apart (sym same ∙ alike ∙ ap name_of here ∙ named))))

pub count_raised : {X : Type 0} (name_of : X → List ℕ) (count : X → ℕ) (xs : List X) (name : List ℕ) (i : ℕ) (x y : X) → position (λ z. bytes_eq (name_of z) name) xs ≡ Some i → x ≡ get_or xs i x → name_of y ≡ name_of x → option_map_or count (find (λ z. bytes_eq (name_of z) name) (set xs i y)) 0 ≡ count y
count_raised {X = X} name_of count xs name i x y at here alike =
    let named : name_of y ≡ name = alike ∙ ap name_of here ∙ name_at_place name_of xs name i x at in
    let test : X → Bool = λ z. bytes_eq (name_of z) name in
    ap (λ found. option_map_or count found 0) (find-set test xs i y (place_is test xs i at) (position-Some test xs i x at).0 ((bytes_eq-Decides (name_of y) name).1 named))

pub count_at_place : {X : Type 0} (name_of : X → List ℕ) (count : X → ℕ) (xs : List X) (name : List ℕ) (i : ℕ) (x : X) → position (λ z. bytes_eq (name_of z) name) xs ≡ Some i → x ≡ get_or xs i x → option_map_or count (find (λ z. bytes_eq (name_of z) name) xs) 0 ≡ count x
count_at_place name_of count xs name i x at here = ap (λ found. option_map_or count found 0) (find_at_place (λ z. bytes_eq (name_of z) name) xs i x at) ∙ ap count (sym here)

pub known_where_found : {X : Type 0} (name_of : X → List ℕ) (xs : List X) (name : List ℕ) (i : ℕ) → position (λ x. bytes_eq (name_of x) name) xs ≡ Some i → Contains (map name_of xs) name
known_where_found name_of [] name i e = absurd (cc)
known_where_found name_of (x ∷ xs) name i e = known_at_place name_of (x ∷ xs) name i x e
