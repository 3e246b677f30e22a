-- Inputs of a signature are kept or dropped, one after the other.
use Rattle.std.proofs.Common.{◌≡◌, ℕ, ◌+◌, ◌<◌, Bool, true, false, cond, List, [], ◌∷◌, ◌++◌, length, map, take, get_or, refl, sym, ap, ◌∙◌}
use Rattle.std.proofs.lemmas.List.{append-nil, map_push, take_more}
use Rattle.hw_names.specs.Name.{Text}
use Rattle.hw_prims.specs.Table.{Pin}
use Rattle.cal_ast.specs.declared.tree.CalPin.{CalPin}
use Rattle.cal_ast.specs.Tree.{pin_tree}
use Rattle.cal_parse.specs.declared.pin.MeantPin as code
use Rattle.cal_parse.specs.Grammar.{MeantPin, is_dropped, inputs_from}
use Rattle.cal_parse.specs.inside.Pins.{meant_tree}

push_step : (v : Bool) (pin : Pin) (all pins more : List Pin) → all ≡ pins ++ more → cond v all (pin ∷ all) ≡ cond v pins (pin ∷ pins) ++ more
push_step true pin all pins more e = e
push_step false pin all pins more e = ap (λ (t : List Pin). pin ∷ t) e

inputs_push : (xs : List MeantPin) (x : MeantPin) → inputs_from (xs ++ x ∷ []) ≡ inputs_from xs ++ inputs_from (x ∷ [])
inputs_push [] x = refl
inputs_push (y ∷ xs) x = push_step (is_dropped y.0) y.1 (inputs_from (xs ++ x ∷ [])) (inputs_from xs) (inputs_from (x ∷ [])) (inputs_push xs x)

module _ (names : List Text) (xs : List code.MeantPin) (i : ℕ) (d : code.MeantPin) (old : List CalPin) (lt : i < length xs) (so_far : map (pin_tree names) old ≡ inputs_from (map (meant_tree names) (take i xs))) where
  next_of : map (meant_tree names) (take (i + 1) xs) ≡ map (meant_tree names) (take i xs) ++ meant_tree names (get_or xs i d) ∷ []
  next_of = ap (map (meant_tree names)) (take_more xs i d lt) ∙ map_push (meant_tree names) (take i xs) (get_or xs i d)

  next_from : inputs_from (map (meant_tree names) (take (i + 1) xs)) ≡ map (pin_tree names) old ++ inputs_from (meant_tree names (get_or xs i d) ∷ [])
  next_from =
      ap inputs_from next_of ∙ inputs_push (map (meant_tree names) (take i xs)) (meant_tree names (get_or xs i d))
      ∙ ap (λ (t : List Pin). t ++ inputs_from (meant_tree names (get_or xs i d) ∷ [])) (sym so_far)

  abbrev with_next : Bool → List Pin
  with_next dropped = map (pin_tree names) old ++ cond dropped [] (pin_tree names (get_or xs i d).pin ∷ [])

  pub next_dropped : is_dropped (get_or xs i d).special ≡ true → map (pin_tree names) old ≡ inputs_from (map (meant_tree names) (take (i + 1) xs))
  next_dropped h = sym (next_from ∙ ap with_next h ∙ append-nil (map (pin_tree names) old))

  pub next_kept : is_dropped (get_or xs i d).special ≡ false → map (pin_tree names) (old ++ (get_or xs i d).pin ∷ []) ≡ inputs_from (map (meant_tree names) (take (i + 1) xs))
  next_kept h = map_push (pin_tree names) old (get_or xs i d).pin ∙ sym (next_from ∙ ap with_next h)
