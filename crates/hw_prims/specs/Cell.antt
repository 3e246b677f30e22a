-- A cell: its primitive, and what it keeps in a row and through the rows of a trace.
use Rattle.std.specs.Prelude.{◌≡◌, ℕ, zero, suc, ◌<◌, List, []}
use Rattle.hw_bits.specs.Values.{widths_of}
use Rattle.hw_bits.specs.declared.bits.Bits.{Bits}
use Rattle.hw_prims.specs.Meaning.{opening_state, output_values, next_state}
use Rattle.hw_prims.specs.Row.{Text, Trace, values_at}
use Rattle.hw_prims.specs.State.{State}
use Rattle.hw_prims.specs.Table.{inputs_of, outputs_of, pin_names, pin_widths}
use Rattle.hw_prims.specs.declared.prim.Primitive.{Primitive}

-- a cell's primitive and its state
pub record CellValue : Type 0 where
  pub prim : Primitive
  pub state : State

-- the values have the number and the widths of the primitive's inputs
abbrev pub AreInputs : Primitive → List Bits → Type 0
AreInputs prim inputs = widths_of inputs ≡ pin_widths (inputs_of prim)

-- the state before row t of a cell whose pins have these full names, from this opening state
abbrev pub state_before : ℕ → Trace → (Text → Text) → Primitive → State → State
state_before zero trace at prim opening = opening
state_before (suc t) trace at prim opening =
    next_state prim (state_before t trace at prim opening) (values_at (trace t) at (pin_names (inputs_of prim)))

-- the trace shows a cell of the primitive at these pins, in each row from its opening state
abbrev pub IsCell : Primitive → (Text → Text) → ℕ → Trace → Type 0
IsCell prim at height trace =
    (r : ℕ) → r < height →
    values_at (trace r) at (pin_names (outputs_of prim))
    ≡ output_values prim (state_before r trace at prim (opening_state prim [])) (values_at (trace r) at (pin_names (inputs_of prim)))
