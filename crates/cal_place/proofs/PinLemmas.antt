-- Ports that are found, as code has them: whether there is one, its width and its side.
use Rattle.std.proofs.Common.{◌≡◌, ℕ, Option, Some, None, option_map, is_some, refl, sym, ap, ◌∙◌}
use Rattle.cal_ast.specs.Ports.{Side, Input, Output, SidedPin}
use Rattle.cal_place.specs.Signatures.{code_of, found, side_of}
use Rattle.cal_place.specs.declared.signature.Pin as code
use Rattle.cal_place.specs.declared.signature.Side as code_side
use Rattle.cal_place.specs.declared.signature.Side.TheVariants as side

abbrev width_of : SidedPin → ℕ
width_of q = q.pin.width

abbrev side_in_tree : SidedPin → Side
side_in_tree q = q.side

side_of-code_of : (s : Side) → side_of (code_of s) ≡ s
side_of-code_of Input = refl
side_of-code_of Output = refl

pub side_of-one : (a b : code_side.Side) → side_of a ≡ side_of b → a ≡ b
side_of-one side.Input side.Input e = refl
side_of-one side.Output side.Output e = refl
side_of-one side.Input side.Output e = absurd (cc)
side_of-one side.Output side.Input e = absurd (cc)

-- there is a port where code finds one
pub is_some-found : (o : Option SidedPin) → is_some (option_map found o) ≡ is_some o
is_some-found None = refl
is_some-found (Some q) = refl

-- the width and the side of the port that is found
pub width_found : (o : Option SidedPin) (p : code.Pin) → Some p ≡ option_map found o → option_map width_of o ≡ Some p.width
width_found None p e = absurd (cc)
width_found (Some q) p e =
    let same : p ≡ found q = cc in
    ap (λ (r : code.Pin). Some r.width) (sym same)

pub side_found : (o : Option SidedPin) (p : code.Pin) → Some p ≡ option_map found o → option_map side_in_tree o ≡ Some (side_of p.side)
side_found None p e = absurd (cc)
side_found (Some q) p e =
    let same : p ≡ found q = cc in
    ap Some (sym (side_of-code_of q.side)) ∙ ap (λ (r : code.Pin). Some (side_of r.side)) (sym same)

-- nothing is found where there is no port
pub none_found : (o : Option SidedPin) → None ≡ option_map found o → o ≡ None
none_found None e = refl
none_found (Some q) e = absurd (cc)
