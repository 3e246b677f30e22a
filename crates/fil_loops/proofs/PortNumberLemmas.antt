-- Ports by the numbers of texts: a full name has one key.
use Rattle.std.proofs.Common.{◌≡◌, ◌≢◌, ◌⊎◌, inl, inr, ℕ, zero, suc, ◌+◌, ◌-◌, ◌<◌, ◌≤◌, Bool, true, false, ◌==◌, ◌||◌, List, [], ◌∷◌, ◌++◌, Option, None, Some, is_some, Contains, length, map, get_or, slice_get, take, drop, rules, refl, sym, ap, ap₂, subst, ◌∙◌, if◌then◌else◌, length-drop, arith}
use Rattle.std.specs.Prelude.{All, IfNone}
use Rattle.std.specs.List.{list_any}
use Rattle.std.proofs.Math.Seq.{drop-length, take-length}
use Rattle.std.proofs.lemmas.List.{drop_more, length-map, map-append, take_more, take-append-drop}
use Rattle.std.proofs.lemmas.List.Elements.{All-cons, All-head, All-nil, All-tail, All-weaker, All-push}
use Rattle.std.proofs.lemmas.List.Quantifiers.{all_pairs_push}
use Rattle.std.proofs.lemmas.Option.{get_or_from_slice_get, slice_get-get_or, slice_get_within}
use Rattle.hw_graph.proofs.MemberLemmas.{In, in_of, contains_of, in_map}
use Rattle.indexmap.specs.IndexSet.{insert_key}
use Rattle.hw_names.proofs.NameLemmas.{KeepsTexts-append, length-KeepsTexts, same_number}
use Rattle.hw_names.specs.Name.{Text, AreDistinct, HasNoDot, KeepsTexts, dot, dotted}
use Rattle.fil_loops.specs.inside.Ports.{AreDifferent, IsDotless, IsFit, full_name_in}
use Rattle.fil_loops.specs.contracts.ports.PortKeyPartialEq.TheImpl.{eq-value}
use Rattle.fil_loops.specs.declared.ports.PortKey.{PortKey}
use Rattle.fil_loops.specs.declared.ports.PortKey.TheVariants.{Own, OfInstance}
use Rattle.fil_place.proofs.GeneralLemmas.{mapped_at}

-- ---- keys that compare equal are one

itself : (a : PortKey) → eq-value.it a a ≡ true
itself (Own x) = search rules
itself (OfInstance x y) = search rules

either_true : (b l : Bool) → l ≡ true → (b || l) ≡ true
either_true true l e = refl
either_true false l e = e

any_there : (k : PortKey) (keys : List PortKey) → In keys k → list_any (eq-value.it k) keys ≡ true
any_there k [] none = absurd none
any_there k (x ∷ keys) (inl same) = ap (λ (b : Bool). b || list_any (eq-value.it k) keys) (subst (λ (y : PortKey). eq-value.it k y ≡ true) (sym same) (itself k))
any_there k (x ∷ keys) (inr later) = either_true (eq-value.it k x) (list_any (eq-value.it k) keys) (any_there k keys later)

-- keys stay different with one that is put among them
pub different_kept : (keys new : List PortKey) (k : PortKey) → new ≡ insert_key eq-value.it keys k → AreDifferent keys → AreDifferent new
different_kept keys new k is different = by (list_any (eq-value.it k) keys) refl is
  where
    by : (b : Bool) → list_any (eq-value.it k) keys ≡ b → new ≡ (if b then keys else keys ++ k ∷ []) → AreDifferent new
    by true any e = subst AreDifferent (sym e) different
    by false any e =
        let absent : ¬ Contains keys k = (λ has. let bad : true ≡ false = sym (any_there k keys (in_of keys k has)) ∙ any in cc) in
        subst AreDifferent (sym e)
        (all_pairs_push (λ (a b : PortKey). a ≢ b) keys k different
        (λ i d lt same. absent (i, lt, get_or_from_slice_get keys i k k (slice_get-get_or keys i d lt ∙ ap Some same))))

-- ---- texts are cut at the last dot

abbrev IsNoDot : ℕ → Type 0
IsNoDot byte = byte ≢ dot

pub no_dot_in : (a b x : Text) → HasNoDot a → a ≡ dotted b x → ⊥
no_dot_in [] [] x plain e = cc
no_dot_in [] (c ∷ b) x plain e = cc
no_dot_in (c ∷ a) [] x plain e = let bad : c ≡ dot = cc in All-head IsNoDot c a plain bad
no_dot_in (c ∷ a) (d ∷ b) x plain e =
    let tails : a ≡ dotted b x = cc in
    no_dot_in a b x (All-tail IsNoDot c a plain) tails

pub cut_at_last : (a b x y : Text) → HasNoDot x → HasNoDot y → dotted a x ≡ dotted b y → (a ≡ b) × (x ≡ y)
cut_at_last [] [] x y p q e = (refl, cc)
cut_at_last [] (c ∷ b) x y p q e = let tails : x ≡ dotted b y = cc in absurd (no_dot_in x b y p tails)
cut_at_last (c ∷ a) [] x y p q e = let tails : y ≡ dotted a x = cc in absurd (no_dot_in y a x q tails)
cut_at_last (c ∷ a) (d ∷ b) x y p q e =
    let heads : c ≡ d = cc in
    let tails : dotted a x ≡ dotted b y = cc in
    let rest = cut_at_last a b x y p q tails in
    (ap₂ ◌∷◌ heads rest.0, rest.1)

pub cut_at_first : (a b x y : Text) → HasNoDot a → HasNoDot b → dotted a x ≡ dotted b y → a ≡ b
cut_at_first [] [] x y p q e = refl
cut_at_first [] (d ∷ b) x y p q e = let bad : d ≡ dot = cc in absurd (All-head IsNoDot d b q bad)
cut_at_first (c ∷ a) [] x y p q e = let bad : c ≡ dot = cc in absurd (All-head IsNoDot c a p bad)
cut_at_first (c ∷ a) (d ∷ b) x y p q e =
    let heads : c ≡ d = cc in
    let tails : dotted a x ≡ dotted b y = cc in
    ap₂ ◌∷◌ heads (cut_at_first a b x y (All-tail IsNoDot c a p) (All-tail IsNoDot d b q) tails)

pub cut_text : (text : Text) (place : ℕ) → drop place text ≡ dot ∷ drop (place + 1) text → dotted (take place text) (drop (place + 1) text) ≡ text
cut_text text place e = ap (λ (rest : Text). take place text ++ rest) (sym e) ∙ take-append-drop place text

-- a slice to the end
pub rest_of : (text : Text) (n : ℕ) → take (length text - n) (drop n text) ≡ drop n text
rest_of text n = ap (λ (k : ℕ). take k (drop n text)) (sym (length-drop n text)) ∙ take-length (drop n text)

-- no dot from the end on
pub dotless_end : (text : Text) (place : ℕ) → place ≡ length text → HasNoDot (drop place text)
dotless_end text place e = subst HasNoDot (sym (drop-length text) ∙ ap (λ (k : ℕ). drop k text) (sym e)) (All-nil IsNoDot)

-- nor from one byte before, if it is none
pub dotless_more : (text : Text) (place next : ℕ) → next + 1 ≡ place → place ≤ length text → (get_or text next 0 ≡ dot → ⊥) → HasNoDot (drop place text) → HasNoDot (drop next text)
dotless_more text place next e within apart rest =
    subst HasNoDot (sym (drop_more text next 0 (omega (arith, e, within))))
    (All-cons IsNoDot (get_or text next 0) (drop (next + 1) text) apart (subst (λ (k : ℕ). HasNoDot (drop k text)) (sym e) rest))

pub dot_here : (text : Text) (place : ℕ) → place < length text → get_or text place 0 ≡ dot → drop place text ≡ dot ∷ drop (place + 1) text
dot_here text place lt is = drop_more text place 0 lt ∙ ap (λ (byte : ℕ). byte ∷ drop (place + 1) text) is

both_false : (x y : Bool) → (x || y) ≡ false → (x ≡ false) × (y ≡ false)
both_false true y e = absurd (cc)
both_false false y e = (refl, e)

no_dot : (text : Text) → list_any (λ y. y == dot) text ≡ false → HasNoDot text
no_dot [] e = All-nil IsNoDot
no_dot (x ∷ text) e =
    let both = both_false (x == dot) (list_any (λ y. y == dot) text) e in
    All-cons IsNoDot x text (λ same. (let yes' : (dot == dot) ≡ false = subst (λ (y : ℕ). (y == dot) ≡ false) same both.0 in cc)) (no_dot text both.1)

pub no_dot_told : (text : Text) (has : Bool) → has ≡ list_any (λ y. y == dot) text → has ≡ false → HasNoDot text
no_dot_told text has is none = no_dot text (sym is ∙ none)

-- what holds where no place is found
pub no_place : (o : Option ℕ) (P : Type 0) → IfNone o P → is_some o ≡ false → P
no_place None P holds none = holds
no_place (Some n) P holds none = let bad : true ≡ false = none in absurd (cc)

-- ---- full names of keys

-- numbers of texts
pub own_name : (texts : List Text) (n : ℕ) (text : Text) → slice_get texts n ≡ Some text → full_name_in texts (Own n) ≡ text
own_name texts n text at = get_or_from_slice_get texts n text [] at

pub dotless_at : (texts : List Text) (n : ℕ) (text : Text) → slice_get texts n ≡ Some text → HasNoDot text → IsDotless texts n
dotless_at texts n text at plain = record { within = slice_get_within texts n text at; dotless = subst HasNoDot (sym (get_or_from_slice_get texts n text [] at)) plain }

pub instance_name : (texts : List Text) (i n : ℕ) (inst port : Text) → slice_get texts i ≡ Some inst → slice_get texts n ≡ Some port → full_name_in texts (OfInstance i n) ≡ dotted inst port
instance_name texts i n inst port at_i at_n = ap₂ dotted (get_or_from_slice_get texts i inst [] at_i) (get_or_from_slice_get texts n port [] at_n)

module _ (old new : List Text) (keeps : KeepsTexts old new) where
  text_kept : (i : ℕ) → i < length old → get_or new i [] ≡ get_or old i []
  text_kept i lt = get_or_from_slice_get new i (get_or old i []) [] (keeps i (get_or old i []) (slice_get-get_or old i [] lt))

  name_kept : (k : PortKey) → IsFit old k → full_name_in new k ≡ full_name_in old k
  name_kept (Own n) fit = text_kept n fit.within
  name_kept (OfInstance i n) fit = ap₂ dotted (text_kept i fit.0) (text_kept n fit.1.within)

  dotless_kept : (n : ℕ) → IsDotless old n → IsDotless new n
  dotless_kept n is = record { within = omega (arith, is.within, length-KeepsTexts old new keeps); dotless = subst HasNoDot (sym (text_kept n is.within)) is.dotless }

  fit_kept : (k : PortKey) → IsFit old k → IsFit new k
  fit_kept (Own n) fit = dotless_kept n fit
  fit_kept (OfInstance i n) fit = (omega (arith, fit.0, length-KeepsTexts old new keeps), dotless_kept n fit.1)

  pub all_fit_kept : (keys : List PortKey) → All (IsFit old) keys → All (IsFit new) keys
  all_fit_kept keys all = All-weaker (IsFit old) (IsFit new) fit_kept keys all

  pub names_same : (keys : List PortKey) → All (IsFit old) keys → map (full_name_in new) keys ≡ map (full_name_in old) keys
  names_same [] all = refl
  names_same (k ∷ keys) all = ap₂ ◌∷◌ (name_kept k (All-head (IsFit old) k keys all)) (names_same keys (All-tail (IsFit old) k keys all))

-- a name without a dot is that of no instance's port
pub own_key_apart : (texts : List Text) (n : ℕ) (inst name : Text) → IsFit texts (Own n) → full_name_in texts (Own n) ≡ dotted inst name → ⊥
own_key_apart texts n inst name fit is = no_dot_in (get_or texts n []) inst name fit.dotless is

-- nor has it one
pub own_key_dotless : (texts : List Text) (n : ℕ) (name : Text) → IsFit texts (Own n) → full_name_in texts (Own n) ≡ name → HasNoDot name
own_key_dotless texts n name fit is = subst HasNoDot is fit.dotless

-- names that keep their numbers among distinct texts are distinct
pub distinct_before : (names texts : List Text) → KeepsTexts names texts → AreDistinct texts → AreDistinct names
distinct_before names texts keeps distinct i j d less within same =
    let at_i = slice_get-get_or names i d (omega (arith, less, within)) ∙ ap Some same in
    let at_j = slice_get-get_or names j d within in
    omega (arith, less, same_number texts i j (get_or names j d) distinct (keeps i (get_or names j d) at_i) (keeps j (get_or names j d) at_j))

module _ (texts : List Text) (distinct : AreDistinct texts) where
  same_text_number : (i j : ℕ) → i < length texts → j < length texts → get_or texts i [] ≡ get_or texts j [] → i ≡ j
  same_text_number i j lt_i lt_j e = same_number texts i j (get_or texts i []) distinct (slice_get-get_or texts i [] lt_i) (slice_get-get_or texts j [] lt_j ∙ ap Some (sym e))

  of_one_name : (a b : PortKey) → IsFit texts a → IsFit texts b → full_name_in texts a ≡ full_name_in texts b → a ≡ b
  of_one_name (Own i) (Own j) fit_a fit_b e = ap Own (same_text_number i j fit_a.within fit_b.within e)
  of_one_name (Own i) (OfInstance c j) fit_a fit_b e = absurd (no_dot_in (get_or texts i []) (get_or texts c []) (get_or texts j []) fit_a.dotless e)
  of_one_name (OfInstance c i) (Own j) fit_a fit_b e = absurd (no_dot_in (get_or texts j []) (get_or texts c []) (get_or texts i []) fit_b.dotless (sym e))
  of_one_name (OfInstance c i) (OfInstance d j) fit_a fit_b e =
      let parts = cut_at_last (get_or texts c []) (get_or texts d []) (get_or texts i []) (get_or texts j []) fit_a.1.dotless fit_b.1.dotless e in
      ap₂ OfInstance (same_text_number c d fit_a.0 fit_b.0 parts.0) (same_text_number i j fit_a.1.within fit_b.1.within parts.1)

  -- the port of an instance, by its full name
  pub of_instance_key : (i n k : ℕ) (inst name : Text) → IsFit texts (OfInstance i n) → full_name_in texts (OfInstance i n) ≡ dotted inst name → HasNoDot name → slice_get texts k ≡ Some inst → (i ≡ k) × (get_or texts n [] ≡ name)
  of_instance_key i n k inst name fit is plain at =
      let parts = cut_at_last (get_or texts i []) inst (get_or texts n []) name fit.1.dotless plain is in
      (same_number texts i k inst distinct (slice_get-get_or texts i [] fit.0 ∙ ap Some parts.0) at, parts.1)

  -- ports of different keys have different names
  pub names_distinct : (keys : List PortKey) → All (IsFit texts) keys → AreDifferent keys → AreDistinct (map (full_name_in texts) keys)
  names_distinct keys fit different i j d less within e =
      let f : PortKey → Text = full_name_in texts in
      let lt_j : j < length keys = omega (arith, within, length-map keys f) in
      let lt_i : i < length keys = omega (arith, less, lt_j) in
      let a = get_or keys i (Own 0) in
      let b = get_or keys j (Own 0) in
      let is_a : get_or (map f keys) i d ≡ f a = get_or_from_slice_get (map f keys) i (f a) d (mapped_at f keys i a (slice_get-get_or keys i (Own 0) lt_i)) in
      let is_b : get_or (map f keys) j d ≡ f b = get_or_from_slice_get (map f keys) j (f b) d (mapped_at f keys j b (slice_get-get_or keys j (Own 0) lt_j)) in
      different i j (Own 0) less lt_j (of_one_name a b (fit i (Own 0) lt_i) (fit j (Own 0) lt_j) (sym is_a ∙ e ∙ is_b))

-- ---- ports, as they are seen

module _ (old new : List Text) (keeps : KeepsTexts old new) (keys : List PortKey) (fit : All (IsFit old) keys) (seen : List Text) (view : map (full_name_in old) keys ≡ seen) where
  pub seen_same : map (full_name_in new) keys ≡ seen
  seen_same = names_same old new keeps keys fit ∙ view

  -- the same ports are seen
  pub same_kept : KeepsTexts seen (map (full_name_in new) keys)
  same_kept i text at = ap (λ (l : List Text). slice_get l i) seen_same ∙ at

  module _ (set : List PortKey) (k : PortKey) where
    pub seen_more : set ≡ keys ++ k ∷ [] → map (full_name_in new) set ≡ seen ++ full_name_in new k ∷ []
    seen_more e =
        ap (map (full_name_in new)) e
        ∙ map-append (full_name_in new) keys (k ∷ [])
        ∙ ap (λ (l : List Text). l ++ full_name_in new k ∷ []) seen_same

    pub seen_kept : (set ≡ keys) ⊎ (set ≡ keys ++ k ∷ []) → KeepsTexts seen (map (full_name_in new) set)
    seen_kept (inl e) i text at = ap (λ (ks : List PortKey). slice_get (map (full_name_in new) ks) i) e ∙ same_kept i text at
    seen_kept (inr e) i text at = ap (λ (l : List Text). slice_get l i) (seen_more e) ∙ KeepsTexts-append seen (full_name_in new k ∷ []) i text at

    -- a name that is not seen has no key
    pub key_absent : ¬ Contains seen (full_name_in new k) → ¬ Contains keys k
    key_absent absent has =
        absent (subst (λ (l : List Text). Contains l (full_name_in new k)) seen_same
        (contains_of (map (full_name_in new) keys) (full_name_in new k) (in_map (full_name_in new) keys k (in_of keys k has))))

    pub seen_at : (n : ℕ) → slice_get set n ≡ Some k → slice_get (map (full_name_in new) set) n ≡ Some (full_name_in new k)
    seen_at n at = mapped_at (full_name_in new) set n k at

    -- one more that fits
    pub fit_grown : (set ≡ keys) ⊎ (set ≡ keys ++ k ∷ []) → IsFit new k → All (IsFit new) set
    fit_grown (inl e) is = subst (All (IsFit new)) (sym e) (all_fit_kept old new keeps keys fit)
    fit_grown (inr e) is = subst (All (IsFit new)) (sym e) (All-push (IsFit new) keys k (all_fit_kept old new keeps keys fit) is)

-- ---- names one after another

get_take : {X : Type 0} (n : ℕ) (xs : List X) (j : ℕ) (y : X) → slice_get (take n xs) j ≡ Some y → (j < n) × (slice_get xs j ≡ Some y)
get_take zero xs j y at = absurd (cc)
get_take (suc n) [] j y at = absurd (cc)
get_take (suc n) (x ∷ xs) zero y at = (omega arith, at)
get_take (suc n) (x ∷ xs) (suc j) y at = let r = get_take n xs j y at in (omega (arith, r.0), r.1)

pub next_absent : (names : List Text) (i : ℕ) (name : Text) → AreDistinct names → slice_get names i ≡ Some name → ¬ Contains (take i names) name
next_absent names i name distinct at has =
    let here = slice_get-get_or (take i names) has.0 name has.1 ∙ ap Some has.2 in
    let there = get_take i names has.0 name here in
    omega (arith, there.0, same_number names has.0 i name distinct there.1 at)

pub next_name : (names : List Text) (i : ℕ) (name : Text) → slice_get names i ≡ Some name → take i names ++ name ∷ [] ≡ take (i + 1) names
next_name names i name at = ap (λ (t : Text). take i names ++ t ∷ []) (sym (get_or_from_slice_get names i name name at)) ∙ sym (take_more names i name (slice_get_within names i name at))

pub dotless_next : (names : List Text) (i : ℕ) (name : Text) → slice_get names i ≡ Some name → HasNoDot name → All HasNoDot (take i names) → All HasNoDot (take (i + 1) names)
dotless_next names i name at plain all = subst (All HasNoDot) (next_name names i name at) (All-push HasNoDot (take i names) name all plain)
