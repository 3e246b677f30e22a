-- Lists as far as a loop has come.
use Rattle.std.proofs.Common.{◌≡◌, ℕ, ◌+◌, ◌<◌, List, [], ◌∷◌, ◌++◌, length, map, take, get_or, slice_get, Contains, Some, sym, ap, ◌∙◌, arith}
use Rattle.std.proofs.lemmas.List.{get_or-take, length-take, map_more, take_more}
use Rattle.std.proofs.lemmas.Option.{get_or_from_slice_get, slice_get_within}
use Rattle.hw_names.specs.Name.{AreDistinct, Text}

-- what a list gives, with its next element
pub map_next : {X Y : Type 0} (f : X → Y) (xs : List X) (i : ℕ) (x : X) → i < length xs → x ≡ get_or xs i x → map f (take (i + 1) xs) ≡ map f (take i xs) ++ f x ∷ []
map_next {X} f xs i x less is = map_more f xs i x less ∙ ap (λ (y : X). map f (take i xs) ++ f y ∷ []) (sym is)

-- names with the next one, which is not among those before it
pub names_next : (names : List Text) (n : ℕ) (text : Text) → slice_get names n ≡ Some text → take (n + 1) names ≡ take n names ++ text ∷ []
names_next names n text at =
    take_more names n text (slice_get_within names n text at) ∙ ap (λ (t : Text). take n names ++ t ∷ []) (get_or_from_slice_get names n text text at)

pub absent_before : (names : List Text) (n : ℕ) (text : Text) → AreDistinct names → slice_get names n ≡ Some text → ¬ Contains (take n names) text
absent_before names n text distinct at (k, less, is) =
    let before : k < n = omega (arith, less, length-take n names) in
    distinct k n text before (slice_get_within names n text at) (sym (get_or-take n names k text before) ∙ is ∙ sym (get_or_from_slice_get names n text text at))
