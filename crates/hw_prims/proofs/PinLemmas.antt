-- Widths of pins.
use Rattle.std.proofs.Common.{◌≡◌, true, arith}
use Rattle.std.specs.Prelude.{All}
use Rattle.std.specs.List.{list_all}
use Rattle.std.proofs.lemmas.Bool.Decides.{nat_tests}
use Rattle.std.proofs.lemmas.List.Sums.{AllPass-from_list_all}
use Rattle.hw_prims.specs.Table.{Pin, is_width, is_made, inputs_of, outputs_of, pins_of, IsMade}
use Rattle.hw_prims.specs.declared.prim.Primitive.{Primitive}
use Rattle.hw_prims.specs.declared.prim.Primitive.TheVariants.{StdConst}

widths_pass : (prim : Primitive) → IsMade prim → list_all (λ (p : Pin). is_width p.width) (pins_of prim) ≡ true
unfolding is_made inputs_of outputs_of
widths_pass (StdConst w v) made = grind (arith, nat_tests)
widths_pass prim made = grind (arith, nat_tests)

-- each pin of a primitive whose parameters are in range has a width of 1 to MAX_WIDTH
pub pins_wide : (prim : Primitive) → IsMade prim → All (λ (p : Pin). is_width p.width ≡ true) (pins_of prim)
pins_wide prim made = AllPass-from_list_all (λ (p : Pin). is_width p.width) (pins_of prim) (widths_pass prim made)
