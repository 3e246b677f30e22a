-- Primitives without a state, as steps. This project's.
use Rattle.std.specs.Prelude.{◌≡◌, ℕ, ◌-◌, ◌^◌, ◌≤◌, List, map, slice_index}
use Rattle.hw_prims.specs.Laws.{AreValuesOf}
use Rattle.hw_prims.specs.Meaning.{output_values}
use Rattle.hw_prims.specs.State.{Stateless}
use Rattle.hw_prims.specs.Table.{inputs_of}
use Rattle.hw_prims.specs.declared.prim.Primitive.{Primitive}
use Rattle.net_steps.specs.Operations.{value_of}
use Rattle.net_steps.specs.Steps.{Extends, IsRowOf}
use Rattle.net_steps.specs.StepsValue.{StepsValue}
use Rattle.net_steps.specs.declared.choice.Choice.{Choice}
use Rattle.net_steps.specs.declared.operation.Operation.{Operation}
use Rattle.net_steps.specs.declared.other.Other.{Other}

-- the low bits of this width are 1, and the others 0
pub record IsMask (width mask : ℕ) : Type 0 where
  pub is : mask ≡ 2 ^ width - 1
  pub wide : 1 ≤ width
  pub within : width ≤ 64

-- the values of some slots
abbrev pub values_at : List ℕ → List ℕ → List ℕ
values_at slots places = map (slice_index slots) places

-- a step makes the primitive's output of inputs that fit their widths
abbrev pub IsGate : Primitive → List ℕ → Operation → Type 0
IsGate prim inputs step =
    (others : List Other) (choices : List Choice) (slots : List ℕ) → AreValuesOf (inputs_of prim) (values_at slots inputs) →
    value_of others choices slots step ≡ slice_index (output_values prim Stateless (values_at slots inputs)) 0

-- steps were added that make the primitive's output of inputs that fit their widths
pub record AddsGate (old new : StepsValue) (prim : Primitive) (inputs : List ℕ) (slot : ℕ) : Type 0 where
  pub extends : Extends old new
  pub made : (others : List Other) (slots : List ℕ) → IsRowOf new others slots → AreValuesOf (inputs_of prim) (values_at slots inputs) →
      slice_index slots slot ≡ slice_index (output_values prim Stateless (values_at slots inputs)) 0
