-- One turn of a walk over a list: tests of all and of any, faults, and what is seen of what was pushed.
use Rattle.std.proofs.Common.{◌≡◌, ℕ, ◌+◌, ◌<◌, ◌≤◌, Bool, true, false, ◌&&◌, ◌||◌, List, [], ◌∷◌, ◌++◌, length, get_or, drop, map, flat_map, sym, ap, ◌∙◌, append_assoc}
use Rattle.std.proofs.lemmas.List.{append-nil, map-append, drop_more, drop_all}
use Rattle.std.proofs.lemmas.Bool.{and_parts}
use Rattle.std.specs.List.{list_all, list_any}
use Rattle.stim_read.proofs.EachLemmas.{cut_at}

pub all_goes : {X : Type 0} (p : X → Bool) (xs : List X) (i : ℕ) (x : X) → i < length xs → x ≡ get_or xs i x → p x ≡ true → list_all p (drop i xs) ≡ list_all p (drop (i + 1) xs)
all_goes p xs i x within is e = ap (list_all p) (cut_at xs i x within is) ∙ ap (λ b. b && list_all p (drop (i + 1) xs)) e

pub all_stops : {X : Type 0} (p : X → Bool) (xs : List X) (i : ℕ) (x : X) → i < length xs → x ≡ get_or xs i x → p x ≡ false → list_all p (drop i xs) ≡ false
all_stops p xs i x within is e = ap (list_all p) (cut_at xs i x within is) ∙ ap (λ b. b && list_all p (drop (i + 1) xs)) e

pub any_goes : {X Y : Type 0} (g : X → Y) (p : Y → Bool) (xs : List X) (i : ℕ) (d : X) → i < length xs → p (g (get_or xs i d)) ≡ false → list_any p (map g (drop i xs)) ≡ list_any p (map g (drop (i + 1) xs))
any_goes g p xs i d within e = ap (λ ys. list_any p (map g ys)) (drop_more xs i d within) ∙ ap (λ b. b || list_any p (map g (drop (i + 1) xs))) e

pub any_stops : {X Y : Type 0} (g : X → Y) (p : Y → Bool) (xs : List X) (i : ℕ) (d : X) → i < length xs → p (g (get_or xs i d)) ≡ true → list_any p (map g (drop i xs)) ≡ true
any_stops g p xs i d within e = ap (λ ys. list_any p (map g ys)) (drop_more xs i d within) ∙ ap (λ b. b || list_any p (map g (drop (i + 1) xs))) e

pub any_ends : {X Y : Type 0} (g : X → Y) (p : Y → Bool) (xs : List X) (i : ℕ) → length xs ≤ i → list_any p (map g (drop i xs)) ≡ false
any_ends g p xs i past = ap (λ ys. list_any p (map g ys)) (drop_all i xs past)

pub all_ends : {X : Type 0} (p : X → Bool) (xs : List X) (i : ℕ) → length xs ≤ i → list_all p (drop i xs) ≡ true
all_ends p xs i past = ap (list_all p) (drop_all i xs past)

-- what is left to map, and what was pushed for it
pub mapped : {X Y Z : Type 0} (f : X → Y) (h : Z → Y) (done : List Z) (xs : List X) (i : ℕ) (x : X) (z : Z) → i < length xs → x ≡ get_or xs i x → h z ≡ f x
    → map h done ++ map f (drop i xs) ≡ map h (done ++ z ∷ []) ++ map f (drop (i + 1) xs)
mapped f h done xs i x z within is e =
    ap (λ ys. map h done ++ map f ys) (cut_at xs i x within is)
    ∙ ap (λ y. map h done ++ y ∷ map f (drop (i + 1) xs)) (sym e)
    ∙ sym (append_assoc (map h done) (h z ∷ []) (map f (drop (i + 1) xs)))
    ∙ ap (λ ys. ys ++ map f (drop (i + 1) xs)) (sym (map-append h done (z ∷ [])))

pub all_here : {X : Type 0} (p : X → Bool) (xs : List X) (i : ℕ) (x : X) → i < length xs → x ≡ get_or xs i x → list_all p (drop i xs) ≡ true → (p x ≡ true) × (list_all p (drop (i + 1) xs) ≡ true)
all_here p xs i x within is h = and_parts (p x) (list_all p (drop (i + 1) xs)) (sym (ap (list_all p) (cut_at xs i x within is)) ∙ h)

pub mapped_ends : {X Y : Type 0} (f : X → Y) (done : List Y) (xs : List X) (i : ℕ) → length xs ≤ i → done ++ map f (drop i xs) ≡ done
mapped_ends f done xs i past = ap (λ ys. done ++ map f ys) (drop_all i xs past) ∙ append-nil done

-- the same, where each element gives a list
pub flat_cut : {X Y Z : Type 0} (g : X → Y) (f : Y → List Z) (xs : List X) (i : ℕ) (x : X) → i < length xs → x ≡ get_or xs i x → flat_map f (map g (drop i xs)) ≡ f (g x) ++ flat_map f (map g (drop (i + 1) xs))
flat_cut g f xs i x within is = ap (λ ys. flat_map f (map g ys)) (cut_at xs i x within is)

pub flat_ends : {X Y Z : Type 0} (g : X → Y) (f : Y → List Z) (done : List Z) (xs : List X) (i : ℕ) → length xs ≤ i → done ++ flat_map f (map g (drop i xs)) ≡ done
flat_ends g f done xs i past = ap (λ ys. done ++ flat_map f (map g ys)) (drop_all i xs past) ∙ append-nil done

-- what is left of a list of numbers, behind those that were pushed
pub numbers_pushed : {Z : Type 0} (h : Z → ℕ) (done : List Z) (xs : List ℕ) (i : ℕ) (z : Z) → i < length xs → h z ≡ get_or xs i 0 → map h done ++ drop i xs ≡ map h (done ++ z ∷ []) ++ drop (i + 1) xs
numbers_pushed h done xs i z within e =
    ap (λ ys. map h done ++ ys) (drop_more xs i 0 within) ∙ ap (λ y. map h done ++ y ∷ drop (i + 1) xs) (sym e)
    ∙ sym (append_assoc (map h done) (h z ∷ []) (drop (i + 1) xs)) ∙ ap (λ ys. ys ++ drop (i + 1) xs) (sym (map-append h done (z ∷ [])))

pub numbers_end : (done xs : List ℕ) (i : ℕ) → length xs ≤ i → done ++ drop i xs ≡ done
numbers_end done xs i past = ap (λ ys. done ++ ys) (drop_all i xs past) ∙ append-nil done

-- the same over numbers
pub numbers_go : (p : ℕ → Bool) (xs : List ℕ) (i : ℕ) → i < length xs → p (get_or xs i 0) ≡ true → list_all p (drop i xs) ≡ list_all p (drop (i + 1) xs)
numbers_go p xs i within e = ap (list_all p) (drop_more xs i 0 within) ∙ ap (λ b. b && list_all p (drop (i + 1) xs)) e

pub numbers_stop : (p : ℕ → Bool) (xs : List ℕ) (i : ℕ) → i < length xs → p (get_or xs i 0) ≡ false → list_all p (drop i xs) ≡ false
numbers_stop p xs i within e = ap (list_all p) (drop_more xs i 0 within) ∙ ap (λ b. b && list_all p (drop (i + 1) xs)) e

pub numbers_mapped : {Z : Type 0} (f : ℕ → ℕ) (h : Z → ℕ) (done : List Z) (xs : List ℕ) (i : ℕ) (z : Z) → i < length xs → h z ≡ f (get_or xs i 0)
    → map h done ++ map f (drop i xs) ≡ map h (done ++ z ∷ []) ++ map f (drop (i + 1) xs)
numbers_mapped f h done xs i z within e =
    ap (λ ys. map h done ++ map f ys) (drop_more xs i 0 within) ∙ ap (λ y. map h done ++ y ∷ map f (drop (i + 1) xs)) (sym e)
    ∙ sym (append_assoc (map h done) (h z ∷ []) (map f (drop (i + 1) xs))) ∙ ap (λ ys. ys ++ map f (drop (i + 1) xs)) (sym (map-append h done (z ∷ [])))
