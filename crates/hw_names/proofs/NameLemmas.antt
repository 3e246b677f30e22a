-- Laws of names: plain names joined by dots can be told apart, and a number in a list of names has one text.
use Rattle.std.proofs.Common.{◌≡◌, ◌≢◌, ℕ, zero, suc, ◌<◌, ◌≤◌, Bool, true, false, not, ◌==◌, List, [], ◌∷◌, ◌++◌, length, slice_get, slice_index_or, Contains, Some, refl, sym, ap, ap₂, ◌∙◌, append_assoc, inl, inr, ◌⊎◌, arith}
use Rattle.std.specs.List.{list_any, list_all}
use Rattle.std.specs.Cmp.Lexicographic.{nat_list_eq_equiv}
use Rattle.std.specs.Str.{bytes_eq}
use Rattle.std.proofs.lemmas.Bool.{and_parts}
use Rattle.std.proofs.lemmas.Bool.Decides.{Decides-eqb}
use Rattle.std.proofs.lemmas.List.Elements.{All-nil, All-cons, All-head, All-tail, All-push}
use Rattle.std.proofs.lemmas.List.Quantifiers.{all_pairs_push}
use Rattle.std.proofs.lemmas.Map.Views.{Contains-from_any, list_any-from_Contains}
use Rattle.std.proofs.lemmas.Option.{slice_get-get_or, slice_get_within, get_or_from_slice_get}
use Rattle.std.proofs.lemmas.Slice.Eq.{bytes_eq-Decides}
use Rattle.hw_names.specs.declared.names.NameId.{NameId}
use Rattle.hw_names.specs.Name.{Text, Path, dot, dotted, full_name, HasNoDot, IsPlain, IsPlainPath, HasPlainNames, text_of, AreDistinct, KeepsTexts}

abbrev IsNoDot : ℕ → Type 0
IsNoDot byte = byte ≢ dot

-- the first dot cuts both texts alike
cut_at_dot : (a b x y : Text) → HasNoDot a → HasNoDot b → dotted a x ≡ dotted b y → (a ≡ b) × (x ≡ y)
cut_at_dot [] [] x y p q e = (refl, cc)
cut_at_dot [] (c ∷ b) x y p q e = let bad : dot ≡ c = cc in absurd (All-head IsNoDot c b q (sym bad))
cut_at_dot (c ∷ a) [] x y p q e = let bad : c ≡ dot = cc in absurd (All-head IsNoDot c a p bad)
cut_at_dot (c ∷ a) (d ∷ b) x y p q e =
    let heads : c ≡ d = cc in
    let tails : dotted a x ≡ dotted b y = cc in
    let rest = cut_at_dot a b x y (All-tail IsNoDot c a p) (All-tail IsNoDot d b q) tails in
    (ap₂ ◌∷◌ heads rest.0, rest.1)

-- plain names before the first dot are equal, and so is what follows
pub cut : (a b x y : Text) → IsPlain a → IsPlain b → dotted a x ≡ dotted b y → (a ≡ b) × (x ≡ y)
cut a b x y p q e = cut_at_dot a b x y p.1 q.1 e

no_dot_in : (a b x : Text) → HasNoDot a → a ≡ dotted b x → ⊥
no_dot_in [] [] x p e = cc
no_dot_in [] (c ∷ b) x p e = cc
no_dot_in (c ∷ a) [] x p e = let bad : c ≡ dot = cc in All-head IsNoDot c a p bad
no_dot_in (c ∷ a) (d ∷ b) x p e =
    let tails : a ≡ dotted b x = cc in
    no_dot_in a b x (All-tail IsNoDot c a p) tails

-- a plain name is no dotted text
pub not_dotted : (a b x : Text) → IsPlain a → a ≡ dotted b x → ⊥
not_dotted a b x p e = no_dot_in a b x p.1 e

-- full names of plain names are equal only where the paths and the names are
pub same_full_name : (p q : Path) (x y : Text) → IsPlainPath p → IsPlainPath q → IsPlain x → IsPlain y → full_name p x ≡ full_name q y → (p ≡ q) × (x ≡ y)
same_full_name [] [] x y hp hq hx hy e = (refl, e)
same_full_name [] (s ∷ q) x y hp hq hx hy e = absurd (not_dotted x s (full_name q y) hx e)
same_full_name (s ∷ p) [] x y hp hq hx hy e = absurd (not_dotted y s (full_name p x) hy (sym e))
same_full_name (s ∷ p) (r ∷ q) x y hp hq hx hy e =
    let here = cut s r (full_name p x) (full_name q y) (All-head IsPlain s p hp) (All-head IsPlain r q hq) e in
    let rest = same_full_name p q x y (All-tail IsPlain s p hp) (All-tail IsPlain r q hq) hx hy here.1 in
    (ap₂ ◌∷◌ here.0 rest.0, rest.1)

-- a port of a cell is the port at the path that goes on by the cell
pub full_name-append : (path : Path) (cell port : Text) → full_name (path ++ cell ∷ []) port ≡ dotted (full_name path cell) port
full_name-append [] cell port = refl
full_name-append (s ∷ path) cell port =
    ap (dotted s) (full_name-append path cell port) ∙ sym (append_assoc s (dot ∷ full_name path cell) (dot ∷ port))

-- a plain path that goes on by a plain cell is plain
pub plain_append : (path : Path) (cell : Text) → IsPlainPath path → IsPlain cell → IsPlainPath (path ++ cell ∷ [])
plain_append path cell hp hc = All-push IsPlain path cell hp hc

-- a number's text, where a look-up gives it
pub text_of-slice_get : (names : List Text) (id : NameId) (text : Text) → slice_get names id.0 ≡ Some text → text_of names id ≡ text
text_of-slice_get names id text found = get_or_from_slice_get names id.0 text [] found

-- the look-up of a number that has a text
pub slice_get-text_of : (names : List Text) (id : NameId) → id.0 < length names → slice_get names id.0 ≡ Some (text_of names id)
slice_get-text_of names id within = slice_get-get_or names id.0 [] within

-- that a written text has no dot, by a test that computes
pub HasNoDot-from_test : (text : Text) → list_all (λ byte. not (byte == dot)) text ≡ true → HasNoDot text
HasNoDot-from_test [] e = All-nil IsNoDot
HasNoDot-from_test (c ∷ cs) e =
    let parts = and_parts (not (c == dot)) (list_all (λ byte. not (byte == dot)) cs) e in
    let other : c ≢ dot = λ same. let yes = (Decides-eqb c dot).1 same in cc in
    All-cons IsNoDot c cs other (HasNoDot-from_test cs parts.1)

-- the text of a number is plain where the names are
pub IsPlain-text_of : (names : List Text) (id : NameId) → HasPlainNames names → id.0 < length names → IsPlain (text_of names id)
IsPlain-text_of names id plain within = plain id.0 [] within

-- a text that has a number is among the names
pub Contains-slice_get : (names : List Text) (i : ℕ) (text : Text) → slice_get names i ≡ Some text → Contains names text
Contains-slice_get names i text found =
    (i, slice_get_within names i text found, get_or_from_slice_get names i text text found)

-- the number of a name at the end
pub slice_get-last : (names : List Text) (text : Text) → slice_get (names ++ text ∷ []) (length names) ≡ Some text
slice_get-last [] text = refl
slice_get-last (name ∷ names) text = slice_get-last names text

-- names grow at the end
pub KeepsTexts-append : (names more : List Text) → KeepsTexts names (names ++ more)
KeepsTexts-append [] more i text found = cc
KeepsTexts-append (name ∷ names) more zero text found = found
KeepsTexts-append (name ∷ names) more (suc i) text found = KeepsTexts-append names more i text found

-- so a number's text stays where names are added at the end
pub text_of-append : (names more : List Text) (id : NameId) → id.0 < length names → text_of (names ++ more) id ≡ text_of names id
text_of-append names more id within =
    text_of-slice_get (names ++ more) id (text_of names id) (KeepsTexts-append names more id.0 (text_of names id) (slice_get-text_of names id within))

-- names that keep their texts are no fewer
pub length-KeepsTexts : (old new : List Text) → KeepsTexts old new → length old ≤ length new
length-KeepsTexts [] new kept = omega arith
length-KeepsTexts (name ∷ old) new kept =
    let last : length old < length (name ∷ old) = omega arith in
    let there = slice_get-get_or (name ∷ old) (length old) [] last in
    let within = slice_get_within new (length old) _ (kept (length old) _ there) in
    omega arith

-- a number's text stays where the names keep their texts
pub text_of-KeepsTexts : (old new : List Text) (id : NameId) → KeepsTexts old new → id.0 < length old → text_of new id ≡ text_of old id
text_of-KeepsTexts old new id kept within =
    text_of-slice_get new id (text_of old id) (kept id.0 (text_of old id) (slice_get-text_of old id within))

-- a text has one number where the names are distinct
pub same_number : (names : List Text) (i j : ℕ) (text : Text) → AreDistinct names → slice_get names i ≡ Some text → slice_get names j ≡ Some text → i ≡ j
same_number names i j text distinct at_i at_j =
    let within_i = slice_get_within names i text at_i in
    let within_j = slice_get_within names j text at_j in
    let is_i = get_or_from_slice_get names i text [] at_i in
    let is_j = get_or_from_slice_get names j text [] at_j in
    let below : i < j → ⊥ = λ h. distinct i j [] h within_j (is_i ∙ sym is_j) in
    let above : j < i → ⊥ = λ h. distinct j i [] h within_i (is_j ∙ sym is_i) in
    omega arith

-- an id is its number
pub id_from_number : (a b : NameId) → a.0 ≡ b.0 → a ≡ b
id_from_number a b same = ap (λ n. record { 0 = n }) same

-- ids with one text are one id where the names are distinct
pub same_id : (names : List Text) (a b : NameId) → AreDistinct names → a.0 < length names → b.0 < length names → text_of names a ≡ text_of names b → a ≡ b
same_id names a b distinct within_a within_b e =
    id_from_number a b (same_number names a.0 b.0 (text_of names a) distinct (slice_get-text_of names a within_a) (slice_get-text_of names b within_b ∙ ap Some (sym e)))

-- a text is among the names or not
pub Contains-cases : (names : List Text) (text : Text) → Contains names text ⊎ ¬ Contains names text
Contains-cases names text = by (list_any (bytes_eq text) names) refl
  where
    by : (r : Bool) → list_any (bytes_eq text) names ≡ r → Contains names text ⊎ ¬ Contains names text
    by true e = inl (Contains-from_any (λ x y. (bytes_eq-Decides x y).0) text names e)
    by false e = inr (λ there. let yes = list_any-from_Contains nat_list_eq_equiv text names there in cc)

-- names stay distinct with a text that was not there
pub AreDistinct-push : (names : List Text) (text : Text) → AreDistinct names → ¬ Contains names text → AreDistinct (names ++ text ∷ [])
AreDistinct-push names text distinct absent =
    all_pairs_push (λ a b. a ≢ b) names text distinct (λ k d within same. absent (k, within, at_itself k d within same))
  where
    at_itself : (k : ℕ) (d : Text) → k < length names → slice_index_or names k d ≡ text → slice_index_or names k text ≡ text
    at_itself k d within same = get_or_from_slice_get names k text text (slice_get-get_or names k d within ∙ ap Some same)

-- names stay plain where at most a plain name is added
pub HasPlainNames-grown : (old new : List Text) (text : Text) → (new ≡ old) ⊎ (new ≡ old ++ text ∷ []) → HasPlainNames old → IsPlain text → HasPlainNames new
HasPlainNames-grown old new text (inl same) plain_names plain_text = rw same plain_names
HasPlainNames-grown old new text (inr added) plain_names plain_text =
    rw added (All-push IsPlain old text plain_names plain_text)
