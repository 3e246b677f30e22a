-- Filament's primitives: data inputs have distinct names, and there is one output.
use Rattle.std.proofs.Common.{◌≡◌, ℕ, Bool, true, false, List, [], ◌∷◌, refl}
use Rattle.std.specs.List.{IsDistinct}
use Rattle.std.specs.List as lists
use Rattle.std.specs.Prelude.{◌&&◌, not, bytes_eq, codes}
use Rattle.std.proofs.lemmas.Bool.{false≢true}
use Rattle.std.proofs.lemmas.Map.Made.{AllPairs-from_IsDistinct}
use Rattle.std.proofs.lemmas.Slice.Eq.{bytes_eq-Decides}
use Rattle.hw_names.specs.Name.{Text, AreDistinct}
use Rattle.hw_prims.specs.Filament.{data_inputs, data_outputs, is_timed}
use Rattle.hw_prims.specs.Memory.{keeps_words}
use Rattle.hw_prims.specs.Table.{inputs_of, outputs_of, pin, pin_names}
use Rattle.hw_prims.specs.declared.prim.Primitive.{Primitive}
use Rattle.hw_prims.specs.declared.prim.Primitive.TheVariants.{StdMemD1, StdMemD2, StdMultPipe}

pub one_output : (prim : Primitive) → is_timed prim ≡ true → (w : ℕ) × (data_outputs prim ≡ pin (codes "out") w ∷ [])
unfolding outputs_of is_timed keeps_words
one_output (StdMemD1 w size idx) known = absurd (false≢true known)
one_output (StdMemD2 w size0 size1 idx0 idx1) known = absurd (false≢true known)
one_output (StdMultPipe w) known = absurd (false≢true known)
one_output prim known = (_, refl)

-- ---- the names of data inputs differ

abbrev differs : Text → List Text → Bool
differs name [] = true
differs name (other ∷ names) = not (bytes_eq name other) && differs name names

abbrev all_differ : List Text → Bool
all_differ [] = true
all_differ (name ∷ names) = differs name names && all_differ names

both : (a b : Bool) → a && b ≡ true → (a ≡ true) × (b ≡ true)
both true b is = (refl, is)
both false b is = absurd (false≢true is)

is_not : (b : Bool) → not b ≡ true → b ≡ false
is_not true is = absurd (false≢true is)
is_not false is = refl

from_differs : (name : Text) (names : List Text) → differs name names ≡ true → lists.AllByRecursion (λ y. bytes_eq name y ≡ false) names
from_differs name [] is = tt
from_differs name (other ∷ names) is =
    let h = both (not (bytes_eq name other)) (differs name names) is in (is_not (bytes_eq name other) h.0, from_differs name names h.1)

from_all_differ : (names : List Text) → all_differ names ≡ true → IsDistinct bytes_eq names
unfolding IsDistinct
from_all_differ [] is = tt
from_all_differ (name ∷ names) is =
    let h = both (differs name names) (all_differ names) is in (from_differs name names h.0, from_all_differ names h.1)

inputs_differ : (prim : Primitive) → all_differ (pin_names (data_inputs prim)) ≡ true
unfolding inputs_of
inputs_differ (StdMultPipe w) = refl
inputs_differ prim = refl

pub inputs_distinct : (prim : Primitive) → AreDistinct (pin_names (data_inputs prim))
inputs_distinct prim = AllPairs-from_IsDistinct bytes_eq-Decides (pin_names (data_inputs prim)) (from_all_differ (pin_names (data_inputs prim)) (inputs_differ prim))
