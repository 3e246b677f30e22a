use Rattle.std.proofs.Common.{◌≡◌, length, map, ap, sym, ◌∙◌, arith, List, subst, refl}
use Rattle.std.specs.Vec.{with_items}
use Rattle.std.proofs.lemmas.List.{with_items_is}
use Rattle.hw_bits.specs.Values.{values_of, widths_of}
use Rattle.hw_prims.specs.Cell.{CellValue}
use Rattle.net_core.specs.Netlist.{netlist_of}
use Rattle.net_sim.proofs.PlanLemmas.{count_numbers}
use Rattle.net_sim.proofs.SimLemmas.{inputs_fit, moves_along, prims_kept, stepped_by_name, if_evaluated}
use Rattle.net_sim.specs.Evaluated.{AreCellInputs, AreMoved}
use Rattle.net_sim.specs.Plan.{ArePrims}
use Rattle.net_sim.specs.Sim.{SimValue, IfEvaluated, IsEdgeOfSim, AreStepped}
use Rattle.net_sim.specs.declared.sim.Phase.TheVariants.{Stepped}
use Rattle.net_sim.proofs.sim.Sim.edge.Goals.{After-self-in-Evaluated-1}
use Rattle.net_sim.proofs.sim.Sim.edge.Goals as goal

pub step_cells-requires-clause-inputs : goal.step_cells-requires-clause-inputs
step_cells-requires-clause-inputs c =
    let plan = c.self.inside.plan in
    let n = netlist_of plan.net.now in
    subst (λ cells. AreCellInputs (widths_of c.as_slice-in-Evaluated.result.now) cells) (sym c.as_slice.ensures.value)
    (inputs_fit n plan.order.now plan.cells.items c.self.invariant.plan_is.lowered.sources plan.givers.items c.self.invariant.plan_is.compiled (widths_of c.as_slice-in-Evaluated.result.now) (ap widths_of c.as_slice-in-Evaluated.ensures.value ∙ c.self.invariant.widths))

moves : (c : After-self-in-Evaluated-1) → AreMoved c.self.inside.plan.cells.items (values_of c.self.inside.values.items) (length c.self.inside.plan.cells.items) c.self.inside.states.items c.step_cells.new.states
moves c = moves_along c.as_slice.result.now c.self.inside.plan.cells.items c.as_slice-in-Evaluated.result.now c.self.inside.values.items c.as_mut_slice.result.now c.self.inside.states.items c.step_cells.new.states c.as_slice.ensures.value c.as_slice-in-Evaluated.ensures.value c.as_mut_slice.ensures.value c.step_cells.ensures

kept : (c : After-self-in-Evaluated-1) → (with_items c.self.inside.states c.step_cells.new.states).items ≡ c.step_cells.new.states
kept c = let all = (moves c).all in let len = c.self.inside.states.ok.0 in with_items_is c.self.inside.states c.step_cells.new.states (omega (arith, all, len))

pub invariant_of-self : goal.invariant_of-self
invariant_of-self c = record {
  plan_is = c.self.invariant.plan_is;
  prims = subst (ArePrims c.self.inside.plan.cells.items) (sym (kept c)) (prims_kept c.self.inside.plan.cells.items c.self.inside.states.items c.step_cells.new.states (values_of c.self.inside.values.items) c.self.invariant.prims (moves c));
  widths = c.self.invariant.widths;
}

pub returns-in-Evaluated-clause-evaluated : goal.returns-in-Evaluated-clause-evaluated
returns-in-Evaluated-clause-evaluated c =
    let inside = c.self.inside in
    let plan = inside.plan in
    let n = netlist_of plan.net.now in
    let states = λ (cells : List CellValue). map (λ (s : CellValue). s.state) cells in
    let old : SimValue = record { net = plan.net.now; states = states inside.states.items; values = values_of inside.values.items; phase = inside.phase } in
    let new : SimValue = record { net = plan.net.now; states = states (with_items inside.states c.step_cells.new.states).items; values = values_of inside.values.items; phase = Stepped } in
    let size = count_numbers n inside.values.items c.self.invariant.widths in
    let stepped = stepped_by_name plan.cells.items inside.states.items c.step_cells.new.states (values_of inside.values.items) c.self.invariant.prims (moves c) n plan.order.now c.self.invariant.plan_is.lowered.sources plan.givers.items c.self.invariant.plan_is.compiled size in
    let edge : IsEdgeOfSim old new = record { net = refl; values = refl; phase = refl; states = subst (λ s. AreStepped n old.states old.values (states s)) (sym (kept c)) stepped } in
    subst (λ (o : SimValue). IfEvaluated o.phase (IsEdgeOfSim o new)) c.self.view_is (if_evaluated old.phase (IsEdgeOfSim old new) edge)
