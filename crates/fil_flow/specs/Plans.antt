-- What a plan gives on values, and that the widths in it fit. This project's.
use Rattle.std.specs.Prelude.{◌≡◌, ℕ, ◌+◌, List, [], ◌∷◌, ◌++◌, ◌==◌, map, filter, take, slice_index, slice_get, length, Option, Some, true, Bool}
use Rattle.std.specs.Prelude.{if◌then◌else◌}
use Rattle.std.specs.List.{sum_by}
use Rattle.hw_prims.specs.Filament.{is_data_pin, primitive_flow}
use Rattle.hw_prims.specs.Meaning.{is_stateless}
use Rattle.hw_prims.specs.Table.{IsMade, inputs_of, outputs_of, pin_widths}
use Rattle.hw_prims.specs.declared.prim.Primitive.{Primitive}
use Rattle.hw_prims.specs.declared.prim.Primitive.TheVariants.{StdReg, FilDelay, FilFastMult, FilSeqMult}
use Rattle.fil_flow.specs.declared.plan.Source.{Source}
use Rattle.fil_flow.specs.declared.plan.Source.TheVariants as source
use Rattle.fil_flow.specs.declared.plan.Callee.{Callee}
use Rattle.fil_flow.specs.declared.plan.Callee.TheVariants as callee
use Rattle.fil_flow.specs.declared.plan.Call.{Call}
use Rattle.fil_flow.specs.declared.plan.Plan.{Plan}

-- the widths of data inputs, and of outputs
pub record Shape : Type 0 where
  pub ins : List ℕ
  pub outs : List ℕ

-- a primitive whose flow is known: it keeps nothing, or is one of those four
abbrev pub has_flow : Primitive → Bool
has_flow (StdReg w) = true
has_flow (FilDelay w) = true
has_flow (FilFastMult w) = true
has_flow (FilSeqMult w) = true
has_flow prim = is_stateless prim

abbrev pub primitive_shape : Primitive → Shape
primitive_shape prim =
    record { ins = pin_widths (filter is_data_pin (inputs_of prim)); outs = pin_widths (filter is_data_pin (outputs_of prim)) }

-- a source's value where the places have these values
abbrev pub source_value : List ℕ → Source → ℕ
source_value values (source.Place place) = slice_index values place
source_value values (source.Literal bits) = bits.value

-- a source's width where the places have these widths; none past the last place
abbrev pub source_width : List ℕ → Source → Option ℕ
source_width widths (source.Place place) = slice_get widths place
source_width widths (source.Literal bits) = Some bits.width

-- what a callee gives; `flow` is that of components, by number
abbrev pub callee_values : (ℕ → List ℕ → List ℕ) → Callee → List ℕ → List ℕ
callee_values flow (callee.Primitive prim) args = primitive_flow prim args ∷ []
callee_values flow (callee.Component number) args = flow number args

-- the values of the places after these calls
abbrev pub values_after : (ℕ → List ℕ → List ℕ) → List Call → List ℕ → List ℕ
values_after flow [] values = values
values_after flow (call ∷ calls) values =
    values_after flow calls (values ++ callee_values flow call.callee (map (source_value values) call.args.items))

-- what these sources give after these calls
abbrev pub values_by : (ℕ → List ℕ → List ℕ) → List Call → List Source → List ℕ → List ℕ
values_by flow calls outs values = map (source_value (values_after flow calls values)) outs

-- on as many values as a component has inputs, its flow is what its plan gives
abbrev pub IsFlow : List Plan → List Shape → (ℕ → List ℕ → List ℕ) → Type 0
IsFlow plans shapes flow =
    (number : ℕ) (plan : Plan) (shape : Shape) → slice_get plans number ≡ Some plan → slice_get shapes number ≡ Some shape →
    (args : List ℕ) → length args ≡ length shape.ins → flow number args ≡ values_by flow plan.calls.items plan.outs.items args

-- the sources have these widths
abbrev pub HaveWidths : List ℕ → List Source → List ℕ → Type 0
HaveWidths widths sources wanted = map (source_width widths) sources ≡ map Some wanted

-- the callee has the shape, where components have these, by number
abbrev pub HasShape : List Shape → Callee → Shape → Type 0
HasShape shapes (callee.Primitive prim) shape = IsMade prim × (has_flow prim ≡ true) × (shape ≡ primitive_shape prim)
HasShape shapes (callee.Component number) shape = slice_get shapes number ≡ Some shape

-- where the places have these widths, the arguments of each call have the widths of its callee's inputs, and in the end
-- the sources have the widths that are wanted
abbrev pub Fit : List Shape → List ℕ → List Call → List Source → List ℕ → Type 0
Fit shapes widths [] outs wanted = HaveWidths widths outs wanted
Fit shapes widths (call ∷ calls) outs wanted =
    (shape : Shape) × HasShape shapes call.callee shape × HaveWidths widths call.args.items shape.ins × Fit shapes (widths ++ shape.outs) calls outs wanted

-- each plan fits its shape, and calls only components before it
abbrev pub PlansFit : List Plan → List Shape → Type 0
PlansFit plans shapes =
    (number : ℕ) (shape : Shape) → slice_get shapes number ≡ Some shape →
    (plan : Plan) × (slice_get plans number ≡ Some plan) × Fit (take number shapes) shape.ins plan.calls.items plan.outs.items shape.outs

abbrev pub callee_cost : (ℕ → ℕ) → Callee → ℕ
callee_cost cost (callee.Primitive prim) = 0
callee_cost cost (callee.Component number) = cost number

-- how many steps calls take
abbrev pub calls_cost : (ℕ → ℕ) → List Call → ℕ
calls_cost cost calls = sum_by (λ (call : Call). 1 + callee_cost cost call.callee) calls

-- how many steps the component with this number takes, of these plans with the latest first
abbrev pub cost_of : List Plan → ℕ → ℕ
cost_of [] number = 0
cost_of (plan ∷ before) number =
    if number == length before then 1 + calls_cost (cost_of before) plan.calls.items else cost_of before number
