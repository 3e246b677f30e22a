-- Lists in which nothing stands twice.
use Rattle.std.proofs.Common.{◌≡◌, ◌≢◌, ℕ, zero, suc, Bool, true, false, cond, filter, List, [], ◌∷◌, ◌++◌, map, flat_map, take, slice_get, Some, refl, sym, ap, subst, ◌∙◌, inl, inr, arith}
use Rattle.std.specs.Prelude.{AllPairs}
use Rattle.std.proofs.lemmas.Option.{slice_get_within, get_or_from_slice_get}
use Rattle.hw_graph.proofs.MemberLemmas.{In, in_left, in_right, in_append, in_map, from_map, from_filter, from_flat_map, in_flat_map, in_at, at_of, in_of}
use Rattle.hw_names.specs.Name.{Text}
use Rattle.net_core.proofs.PortListLemmas.{is_among-absent}
use Rattle.net_core.specs.Rules.{are_new, is_among}

abbrev pub AreApart : {X : Type 0} → List X → Type 0
AreApart [] = Unit {0}
AreApart (x ∷ xs) = (¬ In xs x) × AreApart xs

module _ {X : Type 0} where
  pub apart_left : (xs ys : List X) → AreApart (xs ++ ys) → AreApart xs
  apart_left [] ys apart = tt
  apart_left (x ∷ xs) ys apart = ((λ there. apart.0 (in_left xs ys x there)), apart_left xs ys apart.1)

  pub apart_right : (xs ys : List X) → AreApart (xs ++ ys) → AreApart ys
  apart_right [] ys apart = apart
  apart_right (x ∷ xs) ys apart = apart_right xs ys apart.1

  -- nothing stands in both parts
  pub apart_across : (xs ys : List X) (x : X) → AreApart (xs ++ ys) → In xs x → In ys x → ⊥
  apart_across [] ys x apart here there = here
  apart_across (y ∷ xs) ys x apart (inl same) there =
      let P : X → Type 0 = λ v. ¬ In (xs ++ ys) v in subst P same apart.0 (in_right xs ys x there)
  apart_across (y ∷ xs) ys x apart (inr here) there = apart_across xs ys x apart.1 here there

  pub apart_append : (xs ys : List X) → AreApart xs → AreApart ys → ((x : X) → In xs x → In ys x → ⊥) → AreApart (xs ++ ys)
  apart_append [] ys ax ay across = ay
  apart_append (x ∷ xs) ys ax ay across =
      (first, apart_append xs ys ax.1 ay (λ y here there. across y (inr here) there))
    where
      first : ¬ In (xs ++ ys) x
      first h = elim (in_append xs ys x h) [ inl here ↦ ax.0 here | inr there ↦ across x (inl refl) there ]

  -- elements that differ in pairs, by their places
  pub apart_from_pairs : (xs : List X) → AllPairs (λ a b. a ≢ b) xs → AreApart xs
  apart_from_pairs [] pairs = tt
  apart_from_pairs (x ∷ xs) pairs = (first, apart_from_pairs xs (λ i j d before within. pairs (suc i) (suc j) d (omega arith) (omega arith)))
    where
      first : ¬ In xs x
      first h =
          let at = at_of xs x h in
          let within = slice_get_within xs at.0 x at.1 in
          pairs 0 (suc at.0) x (omega arith) (omega arith) (sym (get_or_from_slice_get xs at.0 x x at.1))

module _ {X Y : Type 0} where
  -- elements with the same image are the same
  pub same_by : (f : X → Y) (xs : List X) (x y : X) → AreApart (map f xs) → In xs x → In xs y → f x ≡ f y → x ≡ y
  same_by f [] x y apart hx hy e = absurd hx
  same_by f (z ∷ xs) x y apart (inl zx) (inl zy) e = sym zx ∙ zy
  same_by f (z ∷ xs) x y apart (inl zx) (inr hy) e =
      let P : Y → Type 0 = In (map f xs) in absurd (apart.0 (subst P (sym e ∙ sym (ap f zx)) (in_map f xs y hy)))
  same_by f (z ∷ xs) x y apart (inr hx) (inl zy) e =
      let P : Y → Type 0 = In (map f xs) in absurd (apart.0 (subst P (e ∙ sym (ap f zy)) (in_map f xs x hx)))
  same_by f (z ∷ xs) x y apart (inr hx) (inr hy) e = same_by f xs x y apart.1 hx hy e

  -- a map that tells the elements apart
  pub apart_map : (f : X → Y) (xs : List X) → ((x y : X) → In xs x → In xs y → f x ≡ f y → x ≡ y) → AreApart xs → AreApart (map f xs)
  apart_map f [] tells apart = tt
  apart_map f (x ∷ xs) tells apart = (first, apart_map f xs (λ a b ha hb e. tells a b (inr ha) (inr hb) e) apart.1)
    where
      first : ¬ In (map f xs) (f x)
      first h =
          let r = from_map f xs (f x) h in
          let P : X → Type 0 = In xs in
          apart.0 (subst P (tells r.0 x (inr r.1) (inl refl) r.2) r.1)

  -- images that differ in pairs, by their places
  pub images_apart : (f : X → Y) (xs : List X) → AllPairs (λ a b. f a ≢ f b) xs → AreApart (map f xs)
  images_apart f [] pairs = tt
  images_apart f (x ∷ xs) pairs = (first, images_apart f xs (λ i j d before within. pairs (suc i) (suc j) d (omega arith) (omega arith)))
    where
      first : ¬ In (map f xs) (f x)
      first h =
          let r = from_map f xs (f x) h in
          let at = at_of xs r.0 r.1 in
          let within = slice_get_within xs at.0 r.0 at.1 in
          pairs 0 (suc at.0) x (omega arith) (omega arith) (sym r.2 ∙ ap f (sym (get_or_from_slice_get xs at.0 r.0 x at.1)))

  pub apart_from_map : (f : X → Y) (xs : List X) → AreApart (map f xs) → AreApart xs
  apart_from_map f [] apart = tt
  apart_from_map f (x ∷ xs) apart = ((λ h. apart.0 (in_map f xs x h)), apart_from_map f xs apart.1)

  -- those that pass a test
  pub apart_filter : (f : X → Y) (test : X → Bool) (xs : List X) → AreApart (map f xs) → AreApart (map f (filter test xs))
  apart_filter f test [] apart = tt
  apart_filter f test (x ∷ xs) apart = by (test x) (apart_filter f test xs apart.1)
    where
      first : ¬ In (map f (filter test xs)) (f x)
      first h =
          let r = from_map f (filter test xs) (f x) h in
          let P : Y → Type 0 = In (map f xs) in
          apart.0 (subst P r.2 (in_map f xs r.0 (from_filter test xs r.0 r.1).0))

      by : (b : Bool) → AreApart (map f (filter test xs)) → AreApart (map f (cond b (x ∷ filter test xs) (filter test xs)))
      by true rest = (first, rest)
      by false rest = rest

  -- lists that are apart each, and share nothing
  pub apart_flat_map : (f : X → List Y) (xs : List X) → AreApart xs → ((x : X) → In xs x → AreApart (f x))
      → ((a b : X) (y : Y) → In xs a → In xs b → In (f a) y → In (f b) y → a ≡ b) → AreApart (flat_map f xs)
  apart_flat_map f [] apart each tells = tt
  apart_flat_map f (x ∷ xs) apart each tells =
      apart_append (f x) (flat_map f xs) (each x (inl refl))
      (apart_flat_map f xs apart.1 (λ y h. each y (inr h)) (λ a b y ha hb at_a at_b. tells a b y (inr ha) (inr hb) at_a at_b)) across
    where
      across : (y : Y) → In (f x) y → In (flat_map f xs) y → ⊥
      across y here there =
          let r = from_flat_map f xs y there in
          let P : X → Type 0 = In xs in
          apart.0 (subst P (tells r.0 x y (inr r.1) (inl refl) r.2 here) r.1)

-- names that are none of those before are new
pub are_new_where : (before names : List Text) → ((name : Text) → In names name → In before name → ⊥) → are_new before names ≡ true
are_new_where before [] apart = refl
are_new_where before (name ∷ names) apart =
    let absent : is_among before name ≡ false = is_among-absent before name (λ there. apart name (inl refl) (in_of before name there)) in
    rw absent (are_new_where before names (λ other h. apart other (inr h)))

-- the names of an element are new after those of the elements before it
pub names_are_new : {X : Type 0} (f : X → List Text) (xs : List X) (k : ℕ) (x : X) → AreApart (flat_map f xs) → slice_get xs k ≡ Some x → are_new (flat_map f (take k xs)) (f x) ≡ true
names_are_new {X} f xs k x apart at = are_new_where (flat_map f (take k xs)) (f x) (apart_at xs k apart at)
  where
    apart_at : (ys : List X) (i : ℕ) → AreApart (flat_map f ys) → slice_get ys i ≡ Some x → (name : Text) → In (f x) name → In (flat_map f (take i ys)) name → ⊥
    apart_at [] i apart at name here before = cc
    apart_at (y ∷ ys) zero apart at name here before = before
    apart_at (y ∷ ys) (suc i) apart at name here before =
        elim (in_append (f y) (flat_map f (take i ys)) name before) [
          | inl first ↦ apart_across (f y) (flat_map f ys) name apart first (in_flat_map f ys x name (in_at ys i x at) here)
          | inr later ↦ apart_at ys i (apart_right (f y) (flat_map f ys) apart) at name here later
        ]
