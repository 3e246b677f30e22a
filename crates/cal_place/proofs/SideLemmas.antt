-- Ports as they are found, and what C4 to C6 and C11 say of them.
use Rattle.std.proofs.Common.{◌≡◌, ◌↔◌, ℕ, zero, suc, eqb, Decides, List, [], ◌∷◌, take, slice_get, Option, Some, None, option_map, refl, sym, ap, ◌∙◌}
use Rattle.std.specs.Option.{option_eq}
use Rattle.std.proofs.lemmas.Bool.Decides.{Decides-eqb}
use Rattle.cal_ast.specs.Ports.{Side, SidedPin, port_in, side_in, width_in}
use Rattle.cal_ast.specs.Tree.{PortName, Component, Design}
use Rattle.cal_place.specs.Signatures.{found, side_of}
use Rattle.cal_place.specs.declared.signature.Pin as code
use Rattle.cal_place.specs.declared.signature.Side as code_side
use Rattle.cal_place.proofs.PinLemmas.{none_found, side_found, side_of-one, width_found}

module _ (design : Design) (c : Component) (p : PortName) (found_pin : Option code.Pin) (told : found_pin ≡ option_map found (port_in design c p)) where
  -- there is a port, and its side is told
  pub has_side : (pin : code.Pin) (side : code_side.Side) → found_pin ≡ Some pin → (pin.side ≡ side) ↔ (side_in design c p ≡ Some (side_of side))
  has_side pin side is =
      let at : side_in design c p ≡ Some (side_of pin.side) = side_found (port_in design c p) pin (sym is ∙ told) in
      (λ same. at ∙ ap (λ s. Some (side_of s)) same, λ e. side_of-one pin.side side (let f = sym at ∙ e in cc))

  pub no_side : (side : Side) → found_pin ≡ None → side_in design c p ≡ Some side → ⊥
  no_side side is e =
      let none : port_in design c p ≡ None = none_found (port_in design c p) (sym is ∙ told) in
      let f = ap (option_map (λ (q : SidedPin). q.side)) none in
      cc

  pub has_width : (pin : code.Pin) → found_pin ≡ Some pin → width_in design c p ≡ Some pin.width
  has_width pin is = width_found (port_in design c p) pin (sym is ∙ told)

  pub no_width : found_pin ≡ None → width_in design c p ≡ None
  no_width is = ap (option_map (λ (q : SidedPin). q.pin.width)) (none_found (port_in design c p) (sym is ∙ told))

-- the elements before a place are none exactly at the first
pub none_before : {X : Type 0} (xs : List X) (k : ℕ) (x : X) → slice_get xs k ≡ Some x → (take k xs ≡ []) ↔ (k ≡ 0)
none_before [] k x at = absurd (cc)
none_before (y ∷ ys) zero x at = (λ e. refl, λ e. refl)
none_before (y ∷ ys) (suc k) x at = (λ e. absurd (cc), λ e. absurd (cc))

-- a test of two widths
pub same_width : (a b : Option ℕ) → Decides (option_eq eqb a b) (a ≡ b)
same_width None None = (λ e. refl, λ e. refl)
same_width None (Some y) = (λ e. absurd (cc), λ e. absurd (cc))
same_width (Some x) None = (λ e. absurd (cc), λ e. absurd (cc))
same_width (Some x) (Some y) = (λ e. ap Some ((Decides-eqb x y).0 e), λ e. (Decides-eqb x y).1 (let same : x ≡ y = cc in same))
