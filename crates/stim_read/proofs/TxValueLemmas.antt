-- The values that names are given.
use Rattle.std.proofs.Common.{◌≡◌, ℕ, ◌+◌, ◌<◌, ◌≤◌, Bool, true, false, List, [], ◌∷◌, ◌&&◌, length, map, set, drop, get_or, is_some, Option, Some, None, if◌then◌else◌, refl, sym, ap, subst, ◌∙◌, arith, inl, inr, MatchOption}
use Rattle.std.specs.List.{list_all}
use Rattle.std.specs.Str.{bytes_eq}
use Rattle.std.proofs.lemmas.Bool.{cases_eq, cases_order, false_from_ne_true}
use Rattle.std.proofs.lemmas.List.{length-set, length-map, get_or-set_same, get_or-set_other, get_or-map, ext_get_or, drop_all, drop_more}
use Rattle.std.proofs.lemmas.List.Folds.{list_all-map}
use Rattle.std.proofs.lemmas.List.Sums.{passes_at_first}
use Rattle.std.proofs.lemmas.Option.{same_Some}
use Rattle.std.proofs.lemmas.Slice.Eq.{bytes_eq-Decides}
use Rattle.hw_names.specs.Name.{Text, AreDistinct}
use Rattle.stim_read.specs.CycleRules.{place_in, fits_width}
use Rattle.stim_read.specs.CycleRules.{Targets, has_known_name}
use Rattle.stim_read.specs.TxRules.{given_after, value_given, value_or_0, is_given, or_0, all_fit}
use Rattle.stim_read.specs.Rules.{refused}
use Rattle.stim_read.specs.inside.TxWalk.{values_fault}
use Rattle.stim_read.specs.declared.given.Given.{Given}
use Rattle.stim_read.proofs.EachLemmas.{cut_at}

-- the values of the names so far, where this is still to be given
pub record AreFound (names : List Text) (given rest : List Given) (found : List (Option ℕ)) : Type 0 where
  pub count : length found ≡ length names
  pub at : (k : ℕ) → k < length names → given_after (get_or found k None) rest (get_or names k []) ≡ value_given given (get_or names k [])

spelled : (names : List Text) (name : Text) (place : ℕ) → place ≡ place_in names name → place < length names → name ≡ get_or names place []
spelled names name place is within =
    let here : place_in names name < length names = omega (arith, is, within) in
    (bytes_eq-Decides name (get_or names (place_in names name) [])).0 (passes_at_first (bytes_eq name) names [] here) ∙ ap (λ i. get_or names i []) (sym is)

one_place : (names : List Text) (i j : ℕ) → AreDistinct names → i < length names → j < length names → get_or names i [] ≡ get_or names j [] → (i ≡ j → ⊥) → ⊥
one_place names i j distinct within inside same apart = elim (cases_order i j) [
  | inl equal ↦ apart equal
  | inr (inl below) ↦ distinct i j [] below inside same
  | inr (inr above) ↦ distinct j i [] above within (sym same)
]

put_at : (names : List Text) (found : List (Option ℕ)) (rest : List Given) (g : Given) (place k : ℕ) → AreDistinct names → place ≡ place_in names g.name → place < length names → length found ≡ length names → k < length names
    → given_after (get_or (set found place (Some g.value)) k None) rest (get_or names k []) ≡ given_after (get_or found k None) (g ∷ rest) (get_or names k [])
put_at names found rest g place k distinct is within count below = elim (cases_eq place k) [
  | inl same ↦
      let inside : place < length found = omega (arith, within, count) in
      let named : g.name ≡ get_or names k [] = spelled names g.name place is within ∙ ap (λ i. get_or names i []) same in
      let on : bytes_eq g.name (get_or names k []) ≡ true = (bytes_eq-Decides g.name (get_or names k [])).1 named in
      let put : get_or (set found place (Some g.value)) k None ≡ Some g.value = subst (λ i. get_or (set found place (Some g.value)) i None ≡ Some g.value) same (get_or-set_same found place (Some g.value) None inside) in
      ap (λ v. given_after v rest (get_or names k [])) put ∙ ap (λ b. given_after (if b then Some g.value else get_or found k None) rest (get_or names k [])) (sym on)
  | inr apart ↦
      let off : bytes_eq g.name (get_or names k []) ≡ false = false_from_ne_true (bytes_eq g.name (get_or names k []))
      (λ on. one_place names place k distinct within below (sym (spelled names g.name place is within) ∙ (bytes_eq-Decides g.name (get_or names k [])).0 on) apart) in
      ap (λ v. given_after v rest (get_or names k [])) (get_or-set_other found place k (Some g.value) None (λ s. apart (sym s)))
      ∙ ap (λ b. given_after (if b then Some g.value else get_or found k None) rest (get_or names k [])) (sym off)
]

pub found_more : (names : List Text) (given : List Given) (i : ℕ) (g : Given) (found : List (Option ℕ)) (place : ℕ) → AreDistinct names → i < length given → g ≡ get_or given i g → place ≡ place_in names g.name → place < length names
    → AreFound names given (drop i given) found → AreFound names given (drop (i + 1) given) (set found place (Some g.value))
found_more names given i g found place distinct within is at there are = record {
  count = length-set found place (Some g.value) ∙ are.count;
  at = λ k below. put_at names found (drop (i + 1) given) g place k distinct at there are.count below
      ∙ ap (λ rest. given_after (get_or found k None) rest (get_or names k [])) (sym (cut_at given i g within is)) ∙ are.at k below;
}

pub found_all : (names : List Text) (given : List Given) (i : ℕ) (found : List (Option ℕ)) → length given ≤ i → AreFound names given (drop i given) found → found ≡ map (value_given given) names
found_all names given i found past are =
    ext_get_or None found (map (value_given given) names) (are.count ∙ sym (length-map names (value_given given)))
    (λ k below.
    let inside : k < length names = omega (arith, below, are.count) in
    ap (λ rest. given_after (get_or found k None) rest (get_or names k [])) (sym (drop_all i given past)) ∙ are.at k inside ∙ sym (get_or-map (value_given given) names k [] None inside))

-- ---- widths

pub fit_goes : (ws vs : List ℕ) (i : ℕ) → i < length ws → i < length vs → fits_width (get_or ws i 0) (get_or vs i 0) ≡ true → all_fit (drop i ws) (drop i vs) ≡ all_fit (drop (i + 1) ws) (drop (i + 1) vs)
fit_goes ws vs i within inside fits = (λ j. all_fit (drop_more ws i 0 within j) (drop_more vs i 0 inside j)) ∙ ap (λ b. b && all_fit (drop (i + 1) ws) (drop (i + 1) vs)) fits

pub fit_stops : (ws vs : List ℕ) (i : ℕ) → i < length ws → i < length vs → fits_width (get_or ws i 0) (get_or vs i 0) ≡ false → all_fit (drop i ws) (drop i vs) ≡ false
fit_stops ws vs i within inside fits = (λ j. all_fit (drop_more ws i 0 within j) (drop_more vs i 0 inside j)) ∙ ap (λ b. b && all_fit (drop (i + 1) ws) (drop (i + 1) vs)) fits

pub or_0_at : (found : List (Option ℕ)) (i : ℕ) → i < length found → get_or (map or_0 found) i 0 ≡ or_0 (get_or found i None)
or_0_at found i within = get_or-map or_0 found i None 0 within

-- what a match on an option says where it is known
pub match_some : {X : Type 0} (o : Option X) (x : X) (A : Type 0) (P : X → Type 0) → o ≡ Some x → MatchOption o A P → P x
match_some {X} None x A P is h = let bad : ◌≡◌ {A = Option X} None (Some x) = is in absurd cc
match_some {X} (Some y) x A P is h = subst P (same_Some y x is) h

pub match_none : {X : Type 0} (o : Option X) (A : Type 0) (P : X → Type 0) → o ≡ None → MatchOption o A P → A
match_none {X} None A P is h = h
match_none {X} (Some y) A P is h = let bad : ◌≡◌ {A = Option X} (Some y) None = is in absurd cc

-- ---- the rules on the values of an entry

pub all_given : (given : List Given) (names : List Text) (found : List (Option ℕ)) → found ≡ map (value_given given) names → list_all (is_given given) names ≡ list_all is_some found
all_given given names found are = sym (list_all-map is_some (value_given given) names) ∙ ap (list_all is_some) (sym are)

values_or_0 : (given : List Given) (names : List Text) → map or_0 (map (value_given given) names) ≡ map (value_or_0 given) names
values_or_0 given [] = refl
values_or_0 given (name ∷ names) = ap (λ vs. value_or_0 given name ∷ vs) (values_or_0 given names)

pub found_or_0 : (given : List Given) (names : List Text) (read found : List (Option ℕ)) → read ≡ found → found ≡ map (value_given given) names → map or_0 read ≡ map (value_or_0 given) names
found_or_0 given names read found same are = ap (map or_0) (same ∙ are) ∙ values_or_0 given names

pub fit_as : (read widths values wanted : List ℕ) (b : Bool) → read ≡ widths → values ≡ wanted → all_fit read values ≡ b → all_fit widths wanted ≡ b
fit_as read widths values wanted b w v h = (λ j. all_fit (sym w j) (sym v j)) ∙ h

pub values_missing : (inputs : Targets) (n : ℕ) (given : List Given) → list_all (has_known_name inputs.names) given ≡ true → list_all (is_given given) inputs.names ≡ false → values_fault inputs n given ≡ Some (refused 6 n)
values_missing inputs n given known missing = rw (known, missing) refl

pub values_wide : (inputs : Targets) (n : ℕ) (given : List Given) → list_all (has_known_name inputs.names) given ≡ true → list_all (is_given given) inputs.names ≡ true → all_fit inputs.widths (map (value_or_0 given) inputs.names) ≡ false
    → values_fault inputs n given ≡ Some (refused 4 n)
values_wide inputs n given known there wide = rw (known, there, wide) refl

pub values_kept : (inputs : Targets) (n : ℕ) (given : List Given) → list_all (has_known_name inputs.names) given ≡ true → list_all (is_given given) inputs.names ≡ true → all_fit inputs.widths (map (value_or_0 given) inputs.names) ≡ true → values_fault inputs n given ≡ None
values_kept inputs n given known there fits = rw (known, there, fits) refl
