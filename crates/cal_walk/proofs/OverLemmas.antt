-- Plans that take no row, as far as a list was looked through.
use Rattle.std.proofs.Common.{◌≡◌, ℕ, ◌+◌, ◌<◌, true, List, [], ◌∷◌, ◌++◌, length, map, take, get_or, Some, sym, ap, ◌∙◌, arith, below_more}
use Rattle.std.specs.Prelude.{slice_get}
use Rattle.std.proofs.lemmas.List.{length-take, get_or-take, take_more}
use Rattle.std.proofs.lemmas.Option.{slice_get-get_or, slice_get_within, get_or_from_slice_get, same_Some}
use Rattle.cal_ast.specs.Plan.{Plan}
use Rattle.cal_walk.specs.Left.{is_over, are_over}
use Rattle.cal_walk.specs.Trees.{plans_of}
use Rattle.cal_walk.proofs.TreeLemmas.{none_lasts}

-- the element that a loop or an index has
pub at_index : {X : Type 0} (xs : List X) (k : ℕ) (x : X) → k < length xs → x ≡ get_or xs k x → slice_get xs k ≡ Some x
at_index xs k x within is = slice_get-get_or xs k x within ∙ ap Some (sym is)

pub one_more : {X : Type 0} (xs : List X) (k : ℕ) (x : X) → slice_get xs k ≡ Some x → take (k + 1) xs ≡ take k xs ++ x ∷ []
one_more xs k x at = take_more xs k x (slice_get_within xs k x at) ∙ ap (λ y. take k xs ++ y ∷ []) (get_or_from_slice_get xs k x x at)

pub at_take : {X : Type 0} (xs : List X) (n k : ℕ) (x : X) → slice_get (take n xs) k ≡ Some x → (k < n) × (slice_get xs k ≡ Some x)
at_take xs n k x at =
    let within = slice_get_within (take n xs) k x at in
    let least : k < n = omega (arith, within, length-take n xs) in
    let inside : k < length xs = omega (arith, within, length-take n xs) in
    (least, slice_get-get_or xs k x inside ∙ ap Some (sym (get_or-take n xs k x least) ∙ get_or_from_slice_get (take n xs) k x x at))

module _ {X : Type 0} (tree : X → Plan) (xs : List X) where
  -- each of the first takes no row
  abbrev pub AreOver : ℕ → Type 0
  AreOver n = (k : ℕ) (x : X) → k < n → slice_get xs k ≡ Some x → is_over (tree x) ≡ true

  pub over_more : (n : ℕ) (x : X) → slice_get xs n ≡ Some x → AreOver n → is_over (tree x) ≡ true → AreOver (n + 1)
  over_more n x at so_far over =
      let P : ℕ → Type 0 = λ k. (y : X) → slice_get xs k ≡ Some y → is_over (tree y) ≡ true in
      let here : P n = λ y there. ap (λ z. is_over (tree z)) (same_Some y x (sym there ∙ at)) ∙ over in
      let all = below_more P n (λ k less y there. so_far k y less there) here in
      λ k y less there. all k less y there

  pub over_front : (n : ℕ) → AreOver n → are_over (plans_of (map tree (take n xs))) ≡ true
  over_front n so_far = none_lasts tree (take n xs) (λ k x at. let there = at_take xs n k x at in so_far k x there.0 there.1)
