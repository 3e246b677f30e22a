-- Names by their first places in a list.
use Rattle.std.proofs.Common.{◌≡◌, ◌≢◌, ℕ, zero, suc, ◌+◌, ◌<◌, ◌≤◌, ◌⊎◌, inl, inr, true, false, List, [], ◌∷◌, ◌++◌, length, take, get_or, slice_get, Contains, Option, Some, None, refl, sym, ap, subst, ◌∙◌, arith}
use Rattle.std.proofs.lemmas.List.{length-append, length-take-le, get_or_append_left, take_all, take-append-le}
use Rattle.std.proofs.lemmas.List.Elements.{Contains-append_left, Contains-append_right, Contains-append_cases}
use Rattle.std.proofs.lemmas.Option.{slice_get_within, slice_get-get_or, get_or_from_slice_get}
use Rattle.hw_names.specs.Name.{Text, AreDistinct}
use Rattle.hw_names.proofs.NameLemmas.{AreDistinct-push, Contains-cases}
use Rattle.cal_ast.proofs.ListLemmas.{Contains-at, Contains-here, Contains-none, AllPairs-across, place_of}
use Rattle.cal_place.specs.FirstPlaces.{IsFirst, TellsFirst, ShowsFirsts}
use Rattle.cal_place.specs.declared.first_places.FirstPlaces.{FirstPlaces}
use Rattle.cal_place.proofs.ListLemmas.{one_more}

-- an element of a list stands at its place in a longer one
pub slice_get-front : {X : Type 0} (xs ys : List X) (k : ℕ) (x : X) → slice_get xs k ≡ Some x → slice_get (xs ++ ys) k ≡ Some x
slice_get-front xs ys k x at =
    let within = slice_get_within xs k x at in
    let there : k < length (xs ++ ys) = omega (arith, length-append xs ys) in
    slice_get-get_or (xs ++ ys) k x there ∙ ap Some (get_or_append_left xs ys x k within ∙ get_or_from_slice_get xs k x x at)

-- the last of a list that one is put to
pub slice_get-last : {X : Type 0} (xs : List X) (x : X) → slice_get (xs ++ x ∷ []) (length xs) ≡ Some x
slice_get-last [] x = refl
slice_get-last (y ∷ xs) x = slice_get-last xs x

-- what stands in a list that one is put to: an element of the list, or the last
pub slice_get-cases : {X : Type 0} (xs : List X) (x : X) (k : ℕ) (y : X) → slice_get (xs ++ x ∷ []) k ≡ Some y → (slice_get xs k ≡ Some y) ⊎ ((k ≡ length xs) × (x ≡ y))
slice_get-cases [] x zero y at = let same : x ≡ y = cc in inr (refl, same)
slice_get-cases [] x (suc k) y at = absurd (cc)
slice_get-cases (z ∷ xs) x zero y at = inl at
slice_get-cases (z ∷ xs) x (suc k) y at =
    elim (slice_get-cases xs x k y at) [
      | inl there ↦ inl there
      | inr last ↦ inr (ap suc last.0, last.1)
    ]

-- a first place stays one where the list goes on
first_kept : (list more : List Text) (name : Text) (place : ℕ) → IsFirst list name place → IsFirst (list ++ more) name place
first_kept list more name place first =
    let within = slice_get_within list place name first.here in
    let at_most : place ≤ length list = omega arith in
    record {
      here = slice_get-front list more place name first.here;
      new = subst (λ (l : List Text). ¬ Contains l name) (sym (take-append-le place list more at_most)) first.new;
    }

-- a new name stands first where it is put
first_put : (list : List Text) (name : Text) → ¬ Contains list name → IsFirst (list ++ name ∷ []) name (length list)
first_put list name absent =
    let whole : length list ≤ length list = omega arith in
    record {
      here = slice_get-last list name;
      new = subst (λ (l : List Text). ¬ Contains l name) (sym (take-append-le (length list) list (name ∷ []) whole ∙ take_whole list)) absent;
    }
  where
    take_whole : (xs : List Text) → take (length xs) xs ≡ xs
    take_whole [] = refl
    take_whole (x ∷ xs) = ap (λ l. x ∷ l) (take_whole xs)

-- names are no more distinct with one that is there
not_distinct : (list : List Text) (name : Text) → Contains list name → AreDistinct (list ++ name ∷ []) → ⊥
not_distinct list name there distinct =
    AllPairs-across (λ a b. a ≢ b) list (name ∷ []) distinct name name there (Contains-here name []) refl

distinct_front : (list more : List Text) → AreDistinct (list ++ more) → AreDistinct list
distinct_front list more distinct i j d less within =
    let there : j < length (list ++ more) = omega (arith, length-append list more) in
    let below : i < length list = omega arith in
    subst (λ b. get_or list i d ≢ b) (get_or_append_left list more d j within)
    (subst (λ a. a ≢ get_or (list ++ more) j d) (get_or_append_left list more d i below) (distinct i j d less there))

module _ (f g : FirstPlaces) (list : List Text) (name : Text) (shows : ShowsFirsts f list) where
  -- a name that is listed has its first place
  pub named_first : (id : ℕ) (text : Text) → slice_get f.names id ≡ Some text → (place : ℕ) × (slice_get f.places.items id ≡ Some place) × IsFirst list text place
  named_first id text at =
      let within = slice_get_within f.names id text at in
      let there : id < length f.places.items = omega (arith, shows.sized) in
      let is = slice_get-get_or f.places.items id 0 there in
      (get_or f.places.items id 0, is, shows.first id _ text at is)

  pub listed_name : (text : Text) → Contains f.names text → Contains list text
  listed_name text has =
      let at = place_of f.names text has in
      let first = named_first at.0 text at.1 in
      Contains-at list first.0 text first.2.here

  -- a new name is put last
  pub added_new : ¬ Contains f.names name → g.names ≡ f.names ++ name ∷ [] → g.places.items ≡ f.places.items ++ length list ∷ [] → g.distinct ≡ f.distinct → ShowsFirsts g (list ++ name ∷ [])
  added_new absent names places distinct =
      let new : ¬ Contains list name = λ has. absent (shows.all name has) in
      record {
        sized = ap length places ∙ length-append f.places.items (length list ∷ []) ∙ ap (λ n. n + 1) shows.sized
            ∙ sym (length-append f.names (name ∷ [])) ∙ sym (ap length names);
        first = λ id place text at at_place. one id place text (subst (λ (l : List Text). slice_get l id ≡ Some text) names at) (subst (λ (l : List ℕ). slice_get l id ≡ Some place) places at_place) new;
        all = λ text has. subst (λ (l : List Text). Contains l text) (sym names) (kept text has);
        distinct = rw distinct (λ yes'. AreDistinct-push list name (shows.distinct.0 yes') new, λ all. shows.distinct.1 (distinct_front list (name ∷ []) all));
        listed = λ all. names ∙ ap (λ (l : List Text). l ++ name ∷ []) (shows.listed (distinct_front list (name ∷ []) all));
      }
    where
      one : (id place : ℕ) (text : Text) → slice_get (f.names ++ name ∷ []) id ≡ Some text → slice_get (f.places.items ++ length list ∷ []) id ≡ Some place → ¬ Contains list name → IsFirst (list ++ name ∷ []) text place
      one id place text at at_place new =
          elim (slice_get-cases f.names name id text at) [
            | inl there ↦
                let own = named_first id text there in
                let same : own.0 ≡ place = let e = slice_get-front f.places.items (length list ∷ []) id own.0 own.1 in cc in
                first_kept list (name ∷ []) text place (subst (λ n. IsFirst list text n) same own.2)
            | inr last ↦
                let e : slice_get (f.places.items ++ length list ∷ []) id ≡ Some (length list) =
                subst (λ n. slice_get (f.places.items ++ length list ∷ []) n ≡ Some (length list)) (shows.sized ∙ sym last.0) (slice_get-last f.places.items (length list)) in
                let same : length list ≡ place = cc in
                subst (λ t. IsFirst (list ++ name ∷ []) t place) last.1 (subst (λ n. IsFirst (list ++ name ∷ []) name n) same (first_put list name new))
          ]

      kept : (text : Text) → Contains (list ++ name ∷ []) text → Contains (f.names ++ name ∷ []) text
      kept text has =
          elim (Contains-append_cases list (name ∷ []) text has) [
            | inl there ↦ Contains-append_left f.names (name ∷ []) text (shows.all text there)
            | inr last ↦ Contains-append_right f.names (name ∷ []) text last
          ]

  -- a name that is there stays at its first place
  pub added_old : Contains f.names name → g.names ≡ f.names → g.places.items ≡ f.places.items → g.distinct ≡ false → ShowsFirsts g (list ++ name ∷ [])
  added_old there names places distinct =
      record {
        sized = ap length places ∙ shows.sized ∙ sym (ap length names);
        first = λ id place text at at_place.
            first_kept list (name ∷ []) text place (shows.first id place text (subst (λ (l : List Text). slice_get l id ≡ Some text) names at) (subst (λ (l : List ℕ). slice_get l id ≡ Some place) places at_place));
        all = λ text has. subst (λ (l : List Text). Contains l text) (sym names) (kept text has);
        distinct = rw distinct (λ t. let bad : false ≡ true = t in absurd (cc), λ all. absurd (not_distinct list name (listed_name name there) all));
        listed = λ all. absurd (not_distinct list name (listed_name name there) all);
      }
    where
      last_is : (text : Text) → Contains (name ∷ []) text → name ≡ text
      last_is text (zero, within, same) = same
      last_is text (suc k, within, same) = absurd (omega arith)

      kept : (text : Text) → Contains (list ++ name ∷ []) text → Contains f.names text
      kept text has =
          elim (Contains-append_cases list (name ∷ []) text has) [
            | inl before ↦ shows.all text before
            | inr last ↦ subst (λ t. Contains f.names t) (last_is text last) there
          ]

-- no names yet
pub firsts_none : (f : FirstPlaces) → f.names ≡ [] → f.places.items ≡ [] → f.distinct ≡ true → ShowsFirsts f []
firsts_none f names places distinct =
    record {
      sized = ap length places ∙ sym (ap length names);
      first = λ id place name at at_place. let bad : slice_get [] id ≡ Some name = subst (λ (l : List Text). slice_get l id ≡ Some name) names at in cc;
      all = λ name has. absurd (Contains-none name has);
      distinct = (λ t. λ i j d less within. absurd (omega (arith, within)), λ all. distinct);
      listed = λ all. names;
    }

-- a name that was put into a list: it was there where the list is no longer
pub interned_same : (old new : List Text) (name : Text) → (Contains old name → new ≡ old) → (¬ Contains old name → new ≡ old ++ name ∷ []) → length new ≡ length old → Contains old name × (new ≡ old)
interned_same old new name present added same =
    elim (Contains-cases old name) [
      | inl there ↦ (there, present there)
      | inr absent ↦ absurd (omega (arith, same, ap length (added absent), length-append old (name ∷ [])))
    ]

pub interned_new : (old new : List Text) (name : Text) → (Contains old name → new ≡ old) → (¬ Contains old name → new ≡ old ++ name ∷ []) → length new ≢ length old → (¬ Contains old name) × (new ≡ old ++ name ∷ [])
interned_new old new name present added differ =
    elim (Contains-cases old name) [
      | inl there ↦ absurd (differ (ap length (present there)))
      | inr absent ↦ (absent, added absent)
    ]

-- the first place that is found
pub place_found : (f : FirstPlaces) (list : List Text) (name : Text) (id place : ℕ) → ShowsFirsts f list → slice_get f.names id ≡ Some name → slice_get f.places.items id ≡ Some place → TellsFirst list name (Some place)
place_found f list name id place shows at at_place = shows.first id place name at at_place

pub place_missing : (f : FirstPlaces) (list : List Text) (name : Text) → ShowsFirsts f list → ¬ Contains f.names name → TellsFirst list name None
place_missing f list name shows absent has = absent (shows.all name has)

-- a loop over names, one name further
pub firsts_more : (names : List Text) (k : ℕ) (name : Text) (old new : FirstPlaces) → slice_get names k ≡ Some name
    → ((list : List Text) → length list ≡ k → ShowsFirsts old list → ShowsFirsts new (list ++ name ∷ [])) → ShowsFirsts old (take k names) → ShowsFirsts new (take (k + 1) names)
firsts_more names k name old new at added shows =
    let within = slice_get_within names k name at in
    let counted : length (take k names) ≡ k = length-take-le k names (omega arith) in
    subst (ShowsFirsts new) (sym (one_more names k name at)) (added (take k names) counted shows)

pub firsts_all : (names : List Text) (k : ℕ) (f : FirstPlaces) → length names ≤ k → ShowsFirsts f (take k names) → ShowsFirsts f names
firsts_all names k f end shows = subst (ShowsFirsts f) (take_all k names end) shows

-- what stands at a name's number is its first place
pub place_told : (f : FirstPlaces) (list : List Text) (name : Text) (id : ℕ) → ShowsFirsts f list → slice_get f.names id ≡ Some name → (r : Option ℕ) → r ≡ slice_get f.places.items id → TellsFirst list name r
place_told f list name id shows at None none =
    let within : id < length f.places.items = omega (arith, shows.sized, slice_get_within f.names id name at) in
    let some = slice_get-get_or f.places.items id 0 within in
    absurd (cc)
place_told f list name id shows at (Some place) is = place_found f list name id place shows at (sym is)
