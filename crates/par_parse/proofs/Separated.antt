-- The first of what is separated, put into an empty vector.
use Rattle.std.proofs.Common.{◌≡◌, List, [], ◌∷◌, ◌++◌, map, Ok, sym, ap, ◌∙◌}
use Rattle.hw_grammar.specs.declared.sort.Sort.{Sort}
use Rattle.hw_grammar.specs.declared.terminal.Terminal.{Terminal}
use Rattle.hw_grammar.specs.Reading.{Reader, after, many, separated, with_front}
use Rattle.hw_grammar.proofs.Steps.{separated_is, alone}

module _ {A B : Type 0} (view : A → B) (s : Sort) (p : Reader B) (ts mid : List Terminal) (first : A) (items old : List A) where
  pub separated_first : p ts ≡ Ok (view first, mid) → items ≡ old ++ first ∷ [] → old ≡ [] → separated s p ts ≡ with_front (map view items) (many (s ∷ []) (after s p) mid)
  separated_first read pushed none =
      separated_is s p ts (view first) mid read ∙ ap (λ (front : List B). with_front front (many (s ∷ []) (after s p) mid)) (sym (ap (map view) (alone items old first pushed none)))
