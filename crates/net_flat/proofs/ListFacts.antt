-- Facts about lists: what they hold, and elements that differ two by two.
use Rattle.std.proofs.Common.{◌≡◌, ◌≢◌, suc, ◌≤◌, Bool, true, false, cond, List, [], ◌∷◌, ◌++◌, length, map, filter, get_or, All, AllPairs, Contains, Some, refl, ap, subst, ◌∙◌, inl, inr, ◌⊎◌, arith}
use Rattle.std.specs.List.{find, flat_map}
use Rattle.std.proofs.lemmas.List.{length-append}
use Rattle.std.proofs.lemmas.List.Elements.{All-append, All-contains, Contains-append_left, Contains-append_right, Contains-append_cases, Contains-get_or}
use Rattle.std.proofs.lemmas.List.Kept.{AllPairs-cons}
use Rattle.hw_graph.proofs.MemberLemmas.{In, contains_of, from_filter, in_of}
use Rattle.cal_ast.proofs.ListLemmas.{Contains-here, Contains-there, find-Some, Contains-none, Contains-cases_first, Contains-from_flat_map, Contains-from_map}

module _ {X : Type 0} where
  pub of_all : (P : X → Type 0) (xs : List X) (x : X) → All P xs → In xs x → P x
  of_all P xs x all h = All-contains P xs x all (contains_of xs x h)

  -- what is found is there, and passes
  pub found_in : (test : X → Bool) (xs : List X) (x : X) → find test xs ≡ Some x → In xs x × (test x ≡ true)
  found_in test xs x e = let r = find-Some test xs x e in (in_of xs x r.0, r.1)

  -- one that passes alone is found
  pub found_alone : (test : X → Bool) (xs : List X) (x : X) → In xs x → test x ≡ true → ((y : X) → In xs y → test y ≡ true → y ≡ x) → find test xs ≡ Some x
  found_alone test [] x h passes alone = absurd h
  found_alone test (y ∷ xs) x h passes alone = by (test y) refl h (λ there. found_alone test xs x there passes (λ z at. alone z (inr at)))
    where
      by : (b : Bool) → test y ≡ b → In (y ∷ xs) x → (In xs x → find test xs ≡ Some x) → cond b (Some y) (find test xs) ≡ Some x
      by true e there later = ap Some (alone y (inl refl) e)
      by false e (inl same) later = let bad : test y ≡ true = ap test same ∙ passes in cc
      by false e (inr there) later = later there

  pub Contains-from_filter : (test : X → Bool) (xs : List X) (x : X) → Contains (filter test xs) x → Contains xs x
  Contains-from_filter test xs x has = contains_of xs x (from_filter test xs x (in_of (filter test xs) x has)).0

  -- what holds of each element that is there holds of all
  pub All-from_Contains : (P : X → Type 0) (xs : List X) → ((x : X) → Contains xs x → P x) → All P xs
  All-from_Contains P xs h k d within = h (get_or xs k d) (Contains-get_or xs k d within)

  -- elements of two lists differ where those of each do, and no element of one is as one of the other
  pub AllPairs-append : (R : X → X → Type 0) (xs ys : List X) → AllPairs R xs → AllPairs R ys → ((x y : X) → Contains xs x → Contains ys y → R x y) → AllPairs R (xs ++ ys)
  AllPairs-append R [] ys hx hy across = hy
  AllPairs-append R (x ∷ xs) ys hx hy across =
      AllPairs-cons R x (xs ++ ys)
      (All-append (R x) xs ys (λ k d within. hx 0 (suc k) d (omega arith) (omega arith)) (All-from_Contains (R x) ys (λ y there. across x y (Contains-here x xs) there)))
      (AllPairs-append R xs ys (λ i j d lt within. hx (suc i) (suc j) d (omega arith) (omega arith)) hy (λ a b there. across a b (Contains-there x xs a there)))

  pub AllPairs-head : (R : X → X → Type 0) (x : X) (xs : List X) → AllPairs R (x ∷ xs) → All (R x) xs
  AllPairs-head R x xs h k d within = h 0 (suc k) d (omega arith) (omega arith)

  pub AllPairs-tail : (R : X → X → Type 0) (x : X) (xs : List X) → AllPairs R (x ∷ xs) → AllPairs R xs
  AllPairs-tail R x xs h i j d lt within = h (suc i) (suc j) d (omega arith) (omega arith)

  pub AllPairs-none : (R : X → X → Type 0) → AllPairs R []
  AllPairs-none R i j d lt within = absurd (omega (arith, within))

  pub length_last : (xs : List X) (x : X) → length (xs ++ x ∷ []) ≡ suc (length xs)
  length_last [] x = refl
  length_last (y ∷ xs) x = ap suc (length_last xs x)

  -- lists with one more element each are equal only where the lists are
  pub same_before_last : (xs ys : List X) (x y : X) → xs ++ x ∷ [] ≡ ys ++ y ∷ [] → (xs ≡ ys) × (x ≡ y)
  same_before_last [] [] x y e = (refl, cc)
  same_before_last [] (b ∷ ys) x y e = let n = ap length e in absurd (omega (arith, n, length_last ys y))
  same_before_last (a ∷ xs) [] x y e = let n = ap length e in absurd (omega (arith, n, length_last xs x))
  same_before_last (a ∷ xs) (b ∷ ys) x y e =
      let heads : a ≡ b = cc in
      let tails : xs ++ x ∷ [] ≡ ys ++ y ∷ [] = cc in
      let rest = same_before_last xs ys x y tails in
      let same : xs ≡ ys = rest.0 in
      (cc, rest.1)

  -- a list that holds an element is cut at it
  pub cut_at : (xs : List X) (x : X) → Contains xs x → (before after : List X) × (xs ≡ before ++ x ∷ after)
  cut_at [] x there = absurd (Contains-none x there)
  cut_at (y ∷ xs) x there = by (λ later. cut_at xs x later) (Contains-cases_first y xs x there)
    where
      by : (Contains xs x → (before after : List X) × (xs ≡ before ++ x ∷ after)) → (y ≡ x) ⊎ Contains xs x → (before after : List X) × (y ∷ xs ≡ before ++ x ∷ after)
      by cut (inl e) = ([], xs, ap (λ z. z ∷ xs) e)
      by cut (inr later) = let rest = cut later in (y ∷ rest.0, rest.1, ap (λ zs. y ∷ zs) rest.2)

  -- without one element a list holds what is not as that element
  pub Contains-without : (before after : List X) (x y : X) → Contains (before ++ x ∷ after) y → x ≢ y → Contains (before ++ after) y
  Contains-without before after x y there other = by (Contains-append_cases before (x ∷ after) y there)
    where
      later : (x ≡ y) ⊎ Contains after y → Contains (before ++ after) y
      later (inl same) = absurd (other same)
      later (inr h) = Contains-append_right before after y h

      by : Contains before y ⊎ Contains (x ∷ after) y → Contains (before ++ after) y
      by (inl h) = Contains-append_left before after y h
      by (inr h) = later (Contains-cases_first x after y h)

  -- distinct elements that another list holds are no more than it has
  pub no_more_than : (xs ys : List X) → AllPairs (λ a b. a ≢ b) xs → ((x : X) → Contains xs x → Contains ys x) → length xs ≤ length ys
  no_more_than [] ys distinct within = omega arith
  no_more_than (x ∷ xs) ys distinct within =
      let cut = cut_at ys x (within x (Contains-here x xs)) in
      let differ = AllPairs-head (λ a b. a ≢ b) x xs distinct in
      let rest = no_more_than xs (cut.0 ++ cut.1) (AllPairs-tail (λ a b. a ≢ b) x xs distinct)
      (λ y there. Contains-without cut.0 cut.1 x y (subst (λ (zs : List X). Contains zs y) cut.2 (within y (Contains-there x xs y there))) (All-contains (λ b. x ≢ b) xs y differ there)) in
      omega (arith, rest, ap length cut.2, length-append cut.0 (x ∷ cut.1), length-append cut.0 cut.1)

module _ {X Y : Type 0} (f : X → List Y) where
  -- what two elements give differs where the elements do
  pub AllPairs-flat_map : (Q : X → X → Type 0) (R : Y → Y → Type 0) (xs : List X) → AllPairs Q xs → ((x : X) → Contains xs x → AllPairs R (f x))
      → ((a b : X) (y z : Y) → Q a b → Contains (f a) y → Contains (f b) z → R y z) → AllPairs R (flat_map f xs)
  AllPairs-flat_map Q R [] distinct each across = AllPairs-none R
  AllPairs-flat_map Q R (x ∷ xs) distinct each across =
      AllPairs-append R (f x) (flat_map f xs) (each x (Contains-here x xs))
      (AllPairs-flat_map Q R xs (AllPairs-tail Q x xs distinct) (λ a there. each a (Contains-there x xs a there)) across)
      (λ y z at_x later. let found = Contains-from_flat_map f xs z later in across x found.0 y z (All-contains (Q x) xs found.0 (AllPairs-head Q x xs distinct) found.1) at_x found.2)

module _ {X Y : Type 0} (f : X → Y) where
  pub AllPairs-map : (R : Y → Y → Type 0) (xs : List X) → AllPairs (λ a b. R (f a) (f b)) xs → AllPairs R (map f xs)
  AllPairs-map R [] h = AllPairs-none R
  AllPairs-map R (x ∷ xs) h =
      AllPairs-cons R (f x) (map f xs)
      (All-from_Contains (R (f x)) (map f xs) (λ y there. let found = Contains-from_map f xs y there in subst (R (f x)) found.2 (All-contains (λ b. R (f x) (f b)) xs found.0 (AllPairs-head (λ a b. R (f a) (f b)) x xs h) found.1)))
      (AllPairs-map R xs (AllPairs-tail (λ a b. R (f a) (f b)) x xs h))
