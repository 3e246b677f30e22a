-- What the elements of a list mean, one after another.
use Rattle.std.proofs.Common.{◌≡◌, ℕ, suc, ◌+◌, ◌<◌, List, [], ◌∷◌, ◌++◌, length, get_or, drop, map, Option, Some, None, option_map, refl, sym, ap, ◌∙◌, append_assoc, add-one, drop-cons, ◌≤◌}
use Rattle.std.proofs.lemmas.List.{append-nil, map-append, drop_all}
use Rattle.stim_read.specs.Parts.{each, ◌>>=◌}

-- what the list means, behind what is done
abbrev pub behind : {B : Type 0} → List B → Option (List B) → Option (List B)
behind done o = option_map (λ rest. done ++ rest) o

pub behind_none : {B : Type 0} (o : Option (List B)) → behind [] o ≡ o
behind_none None = refl
behind_none (Some xs) = refl

more : {B : Type 0} (done : List B) (y : B) (o : Option (List B)) → behind done (o >>= λ ys. Some (y ∷ ys)) ≡ behind (done ++ y ∷ []) o
more done y None = refl
more {B} done y (Some ys) = ap (λ (zs : List B). Some zs) (sym (append_assoc done (y ∷ []) ys))

pub each_more : {A B : Type 0} (f : A → Option B) (done : List B) (x : A) (xs : List A) (y : B) → f x ≡ Some y → behind done (each f (x ∷ xs)) ≡ behind (done ++ y ∷ []) (each f xs)
each_more f done x xs y e = rw e (more done y (each f xs))

pub each_stops : {A B : Type 0} (f : A → Option B) (done : List B) (x : A) (xs : List A) → f x ≡ None → behind done (each f (x ∷ xs)) ≡ None
each_stops f done x xs e = rw e refl

pub each_ends : {A B : Type 0} (f : A → Option B) (done : List B) → behind done (each f []) ≡ Some done
each_ends {A} {B} f done = ap (λ (zs : List B). Some zs) (append-nil done)

-- one turn of a walk over a list of what is seen as such elements, where the results are seen too
pub turn : {X A B C : Type 0} (g : X → A) (f : A → Option B) (h : C → B) (done : List C) (x : X) (xs : List X) (z : C) → f (g x) ≡ Some (h z)
    → behind (map h done) (each f (map g (x ∷ xs))) ≡ behind (map h (done ++ z ∷ [])) (each f (map g xs))
turn g f h done x xs z e = each_more f (map h done) (g x) (map g xs) (h z) e ∙ ap (λ ys. behind ys (each f (map g xs))) (sym (map-append h done (z ∷ [])))

-- a list from one of its places on
pub cut_at : {X : Type 0} (xs : List X) (i : ℕ) (x : X) → i < length xs → x ≡ get_or xs i x → drop i xs ≡ x ∷ drop (i + 1) xs
cut_at xs i x within is = drop-cons xs i x within ∙ ap (λ y. y ∷ drop (suc i) xs) (sym is) ∙ ap (λ n. x ∷ drop n xs) (sym (add-one i))

pub turn_at : {X A B C : Type 0} (g : X → A) (f : A → Option B) (h : C → B) (done : List C) (xs : List X) (i : ℕ) (x : X) (z : C) → i < length xs → x ≡ get_or xs i x → f (g x) ≡ Some (h z)
    → behind (map h done) (each f (map g (drop i xs))) ≡ behind (map h (done ++ z ∷ [])) (each f (map g (drop (i + 1) xs)))
turn_at g f h done xs i x z within is e = ap (λ ys. behind (map h done) (each f (map g ys))) (cut_at xs i x within is) ∙ turn g f h done x (drop (i + 1) xs) z e

pub more_at : {X A B : Type 0} (g : X → A) (f : A → Option B) (done : List B) (xs : List X) (i : ℕ) (x : X) (y : B) → i < length xs → x ≡ get_or xs i x → f (g x) ≡ Some y
    → behind done (each f (map g (drop i xs))) ≡ behind (done ++ y ∷ []) (each f (map g (drop (i + 1) xs)))
more_at g f done xs i x y within is e = ap (λ ys. behind done (each f (map g ys))) (cut_at xs i x within is) ∙ each_more f done (g x) (map g (drop (i + 1) xs)) y e

pub stops_at : {X A B : Type 0} (g : X → A) (f : A → Option B) (done : List B) (xs : List X) (i : ℕ) (x : X) → i < length xs → x ≡ get_or xs i x → f (g x) ≡ None
    → behind done (each f (map g (drop i xs))) ≡ None
stops_at g f done xs i x within is e = ap (λ ys. behind done (each f (map g ys))) (cut_at xs i x within is) ∙ each_stops f done (g x) (map g (drop (i + 1) xs)) e

pub done_at : {X A B : Type 0} (g : X → A) (f : A → Option B) (done : List B) (xs : List X) (i : ℕ) → length xs ≤ i → behind done (each f (map g (drop i xs))) ≡ Some done
done_at g f done xs i past = ap (λ ys. behind done (each f (map g ys))) (drop_all i xs past) ∙ each_ends f done

-- the same, where the rest of the list is known
pub cut_more : {X A B : Type 0} (g : X → A) (f : A → Option B) (done : List B) (s t : List X) (x : X) (y : B) → s ≡ x ∷ t → f (g x) ≡ Some y → behind done (each f (map g s)) ≡ behind (done ++ y ∷ []) (each f (map g t))
cut_more g f done s t x y cut e = ap (λ xs. behind done (each f (map g xs))) cut ∙ each_more f done (g x) (map g t) y e

pub cut_turn : {X A B C : Type 0} (g : X → A) (f : A → Option B) (h : C → B) (done : List C) (s t : List X) (x : X) (z : C) → s ≡ x ∷ t → f (g x) ≡ Some (h z) → behind (map h done) (each f (map g s)) ≡ behind (map h (done ++ z ∷ [])) (each f (map g t))
cut_turn g f h done s t x z cut e = ap (λ xs. behind (map h done) (each f (map g xs))) cut ∙ turn g f h done x t z e

pub cut_stops : {X A B : Type 0} (g : X → A) (f : A → Option B) (done : List B) (s t : List X) (x : X) → s ≡ x ∷ t → f (g x) ≡ None → behind done (each f (map g s)) ≡ None
cut_stops g f done s t x cut e = ap (λ xs. behind done (each f (map g xs))) cut ∙ each_stops f done (g x) (map g t) e

pub cut_done : {X A B : Type 0} (g : X → A) (f : A → Option B) (done : List B) (s : List X) → s ≡ [] → behind done (each f (map g s)) ≡ Some done
cut_done g f done s cut = ap (λ xs. behind done (each f (map g xs))) cut ∙ each_ends f done
