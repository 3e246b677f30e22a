-- The names of the table, and their parameters.
use Rattle.std.proofs.Common.{◌≡◌, ℕ, zero, suc, ◌*◌, ◌<◌, ◌≤◌, ◌^◌, [], ◌∷◌, None, Bool, true, false, refl, arith}
use Rattle.std.proofs.Math.Nat.{mul-le-mul_left}
use Rattle.std.proofs.lemmas.Bool.Decides.{nat_tests}
use Rattle.std.specs.Prelude.{option_and_then, nat_le, ◌&&◌}
use Rattle.hw_prims.specs.Table.{with_params, is_made, prim_in_range, is_width}
use Rattle.hw_prims.specs.declared.name.PrimName.{PrimName}
use Rattle.hw_prims.specs.declared.name.PrimName.TheVariants as name

width-too_great : (w : ℕ) → (w < 2 ^ 8 → ⊥) → is_width w ≡ false
width-too_great w h = grind (arith, nat_tests)

-- no name takes a lone parameter of 2 ^ 8 or more
pub no_wide_parameter : (name : PrimName) (w : ℕ) → (w < 2 ^ 8 → ⊥) → option_and_then prim_in_range (with_params name (w ∷ [])) ≡ None
unfolding with_params is_made
no_wide_parameter name.StdConst w h = refl
no_wide_parameter name.StdWire w h = rw (width-too_great w h) refl
no_wide_parameter name.StdAdd w h = rw (width-too_great w h) refl
no_wide_parameter name.StdSub w h = rw (width-too_great w h) refl
no_wide_parameter name.StdAnd w h = rw (width-too_great w h) refl
no_wide_parameter name.StdOr w h = rw (width-too_great w h) refl
no_wide_parameter name.StdXor w h = rw (width-too_great w h) refl
no_wide_parameter name.StdNot w h = rw (width-too_great w h) refl
no_wide_parameter name.StdEq w h = rw (width-too_great w h) refl
no_wide_parameter name.StdNeq w h = rw (width-too_great w h) refl
no_wide_parameter name.StdLt w h = rw (width-too_great w h) refl
no_wide_parameter name.StdGt w h = rw (width-too_great w h) refl
no_wide_parameter name.StdLe w h = rw (width-too_great w h) refl
no_wide_parameter name.StdGe w h = rw (width-too_great w h) refl
no_wide_parameter name.StdLsh w h = rw (width-too_great w h) refl
no_wide_parameter name.StdRsh w h = rw (width-too_great w h) refl
no_wide_parameter name.StdSlice w h = refl
no_wide_parameter name.StdPad w h = refl
no_wide_parameter name.FilMux w h = rw (width-too_great w h) refl
no_wide_parameter name.FilSlice w h = refl
no_wide_parameter name.FilConcat w h = refl
no_wide_parameter name.StdReg w h = rw (width-too_great w h) refl
no_wide_parameter name.StdMemD1 w h = refl
no_wide_parameter name.StdMemD2 w h = refl
no_wide_parameter name.StdMultPipe w h = rw (width-too_great w h) refl
no_wide_parameter name.FilDelay w h = rw (width-too_great w h) refl
no_wide_parameter name.FilFastMult w h = rw (width-too_great w h) refl
no_wide_parameter name.FilSeqMult w h = rw (width-too_great w h) refl

rows-too_many : (rows row : ℕ) → (rows < 2 ^ 64 → ⊥) → (nat_le 1 row && nat_le (rows * row) 65536) ≡ false
rows-too_many rows zero h = refl
rows-too_many rows (suc row) h =
    let many : rows * 1 ≤ rows * suc row = mul-le-mul_left rows (omega arith) in
    grind (arith, nat_tests)

all_of : (p q r s t u : Bool) → (r && s) ≡ false → (p && q && r && s && t && u) ≡ false
all_of false q r s t u h = refl
all_of true false r s t u h = refl
all_of true true r s t u h = rw h refl

-- no grid has 2 ^ 64 rows or more
pub no_great_grid : (w rows row idx0 idx1 : ℕ) → (rows < 2 ^ 64 → ⊥) → option_and_then prim_in_range (with_params name.StdMemD2 (w ∷ rows ∷ row ∷ idx0 ∷ idx1 ∷ [])) ≡ None
unfolding with_params is_made
no_great_grid w rows row idx0 idx1 h =
    rw (all_of (is_width w) (nat_le 1 rows) (nat_le 1 row) (nat_le (rows * row) 65536) (is_width idx0) (is_width idx1) (rows-too_many rows row h)) refl
