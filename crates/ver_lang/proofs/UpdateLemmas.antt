-- Updates by the names of a cell's own registers.
use Rattle.std.proofs.Common.{◌≡◌, ℕ, List, [], ◌∷◌, ◌++◌, Bool, true, false, refl, ap}
use Rattle.std.proofs.lemmas.Slice.Eq.{bytes_eq-Decides}
use Rattle.std.specs.Prelude.{bytes_eq, slice_set, if◌then◌else◌}
use Rattle.hw_names.specs.Name.{Text, dotted}
use Rattle.ver_lang.specs.Edge.{Update, Takes, TakesWord, register_after, words_after}

rest_of : Text → Text
rest_of [] = []
rest_of (c ∷ cs) = cs

-- what follows the same front is the same
same_rest : (front a b : Text) → front ++ a ≡ front ++ b → a ≡ b
unfolding rest_of
same_rest [] a b is = is
same_rest (c ∷ cs) a b is = same_rest cs a b (ap rest_of is)

same_part : (cell a b : Text) → dotted cell a ≡ dotted cell b → a ≡ b
unfolding rest_of
same_part cell a b is = ap rest_of (same_rest cell (46 ∷ a) (46 ∷ b) is)

pub is_itself : (name : Text) → bytes_eq name name ≡ true
is_itself name = (bytes_eq-Decides name name).1 refl

pub is_other : (cell a b : Text) → bytes_eq a b ≡ false → bytes_eq (dotted cell a) (dotted cell b) ≡ false
is_other cell a b differ = by (bytes_eq (dotted cell a) (dotted cell b)) refl
  where
    by : (same : Bool) → bytes_eq (dotted cell a) (dotted cell b) ≡ same → same ≡ false
    by false is = refl
    by true is =
        let texts : a ≡ b = same_part cell a b ((bytes_eq-Decides (dotted cell a) (dotted cell b)).0 is) in
        let tests : bytes_eq a b ≡ true = (bytes_eq-Decides a b).1 texts in
        absurd (cc)

-- an update of the register
pub takes_own : (cell r : Text) (v held : ℕ) (us : List Update) → register_after (Takes (dotted cell r) v ∷ us) (dotted cell r) held ≡ register_after us (dotted cell r) v
takes_own cell r v held us = ap (λ (same : Bool). register_after us (dotted cell r) (if same then v else held)) (is_itself (dotted cell r))

-- and of another one
pub takes_other : (cell other r : Text) (v held : ℕ) (us : List Update) → bytes_eq other r ≡ false → register_after (Takes (dotted cell other) v ∷ us) (dotted cell r) held ≡ register_after us (dotted cell r) held
takes_other cell other r v held us differ = ap (λ (same : Bool). register_after us (dotted cell r) (if same then v else held)) (is_other cell other r differ)

-- an update of a word of the memory
pub stores_own : (cell m : Text) (place v : ℕ) (held : List ℕ) (us : List Update) → words_after (TakesWord (dotted cell m) place v ∷ us) (dotted cell m) held ≡ words_after us (dotted cell m) (slice_set held place v)
stores_own cell m place v held us = ap (λ (same : Bool). words_after us (dotted cell m) (if same then slice_set held place v else held)) (is_itself (dotted cell m))
