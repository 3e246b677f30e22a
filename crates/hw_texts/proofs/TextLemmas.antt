-- Texts that begin with names.
use Rattle.std.proofs.Common.{◌≡◌, ◌⊎◌, inl, inr, ℕ, zero, suc, ◌+◌, List, [], ◌∷◌, ◌++◌, Some, Contains, length, slice_get, zero-add, sym, ap, subst, ◌∙◌, append_assoc, arith}
use Rattle.std.proofs.lemmas.List.Elements.{Contains-append_cases}
use Rattle.hw_names.proofs.NameLemmas.{AreDistinct-push, Contains-cases, KeepsTexts-append}
use Rattle.hw_names.specs.Name.{Text, AreDistinct, KeepsTexts}
use Rattle.hw_texts.specs.Texts.{TextList}

-- what stands behind a list
pub get_right : {X : Type 0} (xs ys : List X) (j : ℕ) → slice_get (xs ++ ys) (length xs + j) ≡ slice_get ys j
get_right [] ys j = ap (slice_get ys) (zero-add j)
get_right (x ∷ xs) ys j =
    let e : suc (length xs) + j ≡ suc (length xs + j) = omega arith in
    ap (slice_get (x ∷ (xs ++ ys))) e ∙ get_right xs ys j

-- a name stands at its number
pub names_first : (names others : List Text) (v : TextList) → record { names = names; all = names ++ others } ≡ v → KeepsTexts v.names v.all
names_first names others v is = subst (λ (t : TextList). KeepsTexts t.names t.all) is (KeepsTexts-append names others)

-- another text stands behind them
pub other_behind : (names others : List Text) (count i : ℕ) (text : Text) → count ≡ length names → slice_get others i ≡ Some text → slice_get (names ++ others) (count + i) ≡ Some text
other_behind names others count i text size at = ap (λ (k : ℕ). slice_get (names ++ others) (k + i)) size ∙ get_right names others i ∙ at

pub other_found : (names others : List Text) (v : TextList) (count i : ℕ) (text : Text) → record { names = names; all = names ++ others } ≡ v → count ≡ length names → slice_get others i ≡ Some text → slice_get v.all (count + i) ≡ Some text
other_found names others v count i text is size at = ap (λ (t : TextList). slice_get t.all (count + i)) (sym is) ∙ other_behind names others count i text size at

-- texts stay distinct with one that was not among the names
pub distinct_more : (names others new : List Text) (text : Text) → AreDistinct (names ++ others) → ¬ Contains names text → (Contains others text → new ≡ others) → (new ≡ others) ⊎ (new ≡ others ++ text ∷ []) → AreDistinct (names ++ new)
distinct_more names others new text distinct absent same grown = by (Contains-cases others text) grown
  where
    stays : new ≡ others → AreDistinct (names ++ new)
    stays e = subst (λ (l : List Text). AreDistinct (names ++ l)) (sym e) distinct

    by : Contains others text ⊎ ¬ Contains others text → (new ≡ others) ⊎ (new ≡ others ++ text ∷ []) → AreDistinct (names ++ new)
    by (inl there) g = stays (same there)
    by (inr other) (inl e) = stays e
    by (inr other) (inr added) =
        let nowhere : ¬ Contains (names ++ others) text = (λ has. elim (Contains-append_cases names others text has) [ inl a ↦ absent a | inr b ↦ other b ]) in
        subst (λ (l : List Text). AreDistinct (names ++ l)) (sym added)
        (subst AreDistinct (append_assoc names others (text ∷ [])) (AreDistinct-push (names ++ others) text distinct nowhere))

kept_behind : (names others new : List Text) → KeepsTexts others new → KeepsTexts (names ++ others) (names ++ new)
kept_behind [] others new keeps i text at = keeps i text at
kept_behind (name ∷ names) others new keeps zero text at = at
kept_behind (name ∷ names) others new keeps (suc i) text at = kept_behind names others new keeps i text at

-- numbers keep their texts
pub texts_kept : (names others new : List Text) (v : TextList) → record { names = names; all = names ++ others } ≡ v → KeepsTexts others new → KeepsTexts v.all (names ++ new)
texts_kept names others new v is keeps = subst (λ (t : TextList). KeepsTexts t.all (names ++ new)) is (kept_behind names others new keeps)
