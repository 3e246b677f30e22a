-- The names of a signature's ports.
use Rattle.std.proofs.Common.{◌≡◌, List, [], ◌∷◌, ◌++◌, refl, ap}
use Rattle.hw_prims.specs.Table.{Pin, pin_names}
use Rattle.cal_ast.specs.Ports.{both_sides}
use Rattle.cal_place.specs.Signatures.{sided_names}

-- the names of a signature's ports
pub names_both : (ins outs : List Pin) → sided_names (both_sides ins outs) ≡ pin_names (ins ++ outs)
names_both [] outs = side_names outs
  where
    side_names : (pins : List Pin) → sided_names (both_sides [] pins) ≡ pin_names pins
    side_names [] = refl
    side_names (p ∷ pins) = ap (λ names. p.name ∷ names) (side_names pins)
names_both (p ∷ ins) outs = ap (λ names. p.name ∷ names) (names_both ins outs)
