use Rattle.std.proofs.Common.{◌≡◌, ℕ, List, Some, slice_get}
use Rattle.hw_bits.specs.Values.{values_of, widths_of}
use Rattle.fil_flow.specs.inside.Frames.{StandsOn, steps_left, value_of_run}
use Rattle.fil_flow.specs.Plans.{IsFlow, PlansFit, Shape}
use Rattle.fil_flow.specs.declared.machine.Progress.TheVariants.{Under}
use Rattle.fil_flow.proofs.machine.run.Given as goal

-- the run fits and gives what the component with the number gives
abbrev pub invariant-loop-waiting : goal.invariant-loop-waiting
invariant-loop-waiting l =
    record {
      stands : (shapes : List Shape) (shape : Shape) → PlansFit l.plans shapes → slice_get shapes l.number ≡ Some shape → widths_of l.fn.inputs.items ≡ shape.ins
          → StandsOn shapes l.waiting.items shape.outs l.top;
      value : (shapes : List Shape) (shape : Shape) (flow : ℕ → List ℕ → List ℕ) → PlansFit l.plans shapes → slice_get shapes l.number ≡ Some shape
          → widths_of l.fn.inputs.items ≡ shape.ins → IsFlow l.plans shapes flow
          → value_of_run flow l.waiting.items (Under l.top) ≡ flow l.number (values_of l.fn.inputs.items);
    }

abbrev pub decreases-loop-waiting : goal.decreases-loop-waiting
decreases-loop-waiting l = steps_left l.plans l.waiting.items (Under l.top)
