-- Components under way, the latest first. This project's.
use Rattle.std.specs.Prelude.{◌≡◌, ℕ, ◌+◌, List, [], ◌∷◌, ◌++◌, map, reverse}
use Rattle.std.specs.List.{sum_by}
use Rattle.hw_bits.specs.Values.{values_of, widths_of}
use Rattle.hw_bits.specs.declared.bits.Bits.{Bits}
use Rattle.fil_flow.specs.Plans.{Shape, Fit, HaveWidths, PlansFit, calls_cost, cost_of, source_value, values_by}
use Rattle.fil_flow.specs.declared.machine.Frame.{Frame}
use Rattle.fil_flow.specs.declared.machine.Progress.{Progress}
use Rattle.fil_flow.specs.declared.machine.Progress.TheVariants as progress
use Rattle.fil_flow.specs.declared.plan.Plan.{Plan}
use Rattle.fil_flow.specs.declared.plan.Source.{Source}

-- what is found are the values from these sources, with the widths of the sources, where the places have these values
pub record AreFrom (places : List Bits) (sources : List Source) (found : List Bits) : Type 0 where
  pub values : values_of found ≡ map (source_value (values_of places)) sources
  pub widths : HaveWidths (widths_of places) sources (widths_of found)

-- what a component under way gives, where its places have these values
abbrev pub given_on : (ℕ → List ℕ → List ℕ) → Frame → List ℕ → List ℕ
given_on flow f values = values_by flow f.calls.now f.outs.now values

-- what the first of the waiting components gives, when the one above them gives these values
abbrev pub given_over : (ℕ → List ℕ → List ℕ) → List Frame → List ℕ → List ℕ
given_over flow [] values = values
given_over flow (f ∷ waiting) values = given_over flow waiting (given_on flow f (values_of f.values.items ++ values))

-- the waiting components fit outputs of these widths from the one above them, and the first of them gives what is wanted
abbrev pub WaitFor : List Shape → List Frame → List ℕ → List ℕ → Type 0
WaitFor shapes [] outs wanted = outs ≡ wanted
WaitFor shapes (f ∷ waiting) outs wanted =
    (own : List ℕ) × Fit shapes (widths_of f.values.items ++ outs) f.calls.now f.outs.now own × WaitFor shapes waiting own wanted

-- the component that is under way fits, and those that wait for it do
pub record StandsOn (shapes : List Shape) (waiting : List Frame) (wanted : List ℕ) (top : Frame) : Type 0 where
  pub outs : List ℕ
  pub top_fits : Fit shapes (widths_of top.values.items) top.calls.now top.outs.now outs
  pub waiting_fit : WaitFor shapes (reverse waiting) outs wanted

-- a run can go on
abbrev pub CanRun : List Plan → List Frame → Frame → Type 0
CanRun plans waiting top = (shapes : List Shape) × (wanted : List ℕ) × PlansFit plans shapes × StandsOn shapes waiting wanted top

-- what a run gives in the end
abbrev pub value_of_run : (ℕ → List ℕ → List ℕ) → List Frame → Progress → List ℕ
value_of_run flow waiting (progress.Under f) = given_over flow (reverse waiting) (given_on flow f (values_of f.values.items))
value_of_run flow waiting (progress.Done outs) = values_of outs.items

-- a run fits, and what it gives in the end has the widths that are wanted
abbrev pub RunStands : List Shape → List Frame → List ℕ → Progress → Type 0
RunStands shapes waiting wanted (progress.Under f) = StandsOn shapes waiting wanted f
RunStands shapes waiting wanted (progress.Done outs) = widths_of outs.items ≡ wanted

-- how many steps a component under way still takes, with all that it calls
abbrev pub frame_cost : (ℕ → ℕ) → Frame → ℕ
frame_cost cost f = 1 + calls_cost cost f.calls.now

-- how many steps the waiting components still take
abbrev pub waiting_cost : List Plan → List Frame → ℕ
waiting_cost plans waiting = sum_by (frame_cost (cost_of (reverse plans))) waiting

-- how many steps a run still takes
abbrev pub steps_left : List Plan → List Frame → Progress → ℕ
steps_left plans waiting (progress.Under f) = frame_cost (cost_of (reverse plans)) f + waiting_cost plans waiting
steps_left plans waiting (progress.Done outs) = 0
