use Rattle.std.proofs.Common.{◌≡◌, ◌∙◌, List, length, ap, map, sym, arith, subst, refl, None, Some, Ok, Err, Result}
use Rattle.std.specs.Vec.{with_items}
use Rattle.std.proofs.lemmas.List.{with_items_is, length-map}
use Rattle.hw_bits.specs.declared.bits.Bits.{Bits}
use Rattle.net_sim.specs.Layout.{port_names}
use Rattle.hw_bits.specs.Values.{values_of}
use Rattle.hw_prims.specs.Cell.{CellValue}
use Rattle.net_core.specs.Netlist.{netlist_of}
use Rattle.net_sim.proofs.PlanLemmas.{count_values}
use Rattle.net_sim.proofs.SimLemmas.{evaluated_along, if_running, if_not_stopped}
use Rattle.net_sim.specs.Sim.{SimValue, IfRunning, IfStopped, IsRowOfSim}
use Rattle.net_sim.specs.declared.sim.Conflict.{Conflict}
use Rattle.net_sim.specs.declared.sim.Phase.TheVariants.{Evaluated, Stopped}
use Rattle.net_sim.proofs.sim.Sim.row.Goals as goal

pub returns-in-None : goal.returns-in-None
returns-in-None c =
    let inside = c.self.inside in
    let plan = inside.plan in
    let n = netlist_of plan.net.now in
    let states = map (λ (s : CellValue). s.state) inside.states.items in
    let old : SimValue = record { net = plan.net.now; states = states; values = values_of inside.values.items; phase = inside.phase } in
    let new : SimValue = record { net = plan.net.now; states = states; values = values_of (with_items inside.values c.evaluate.new.values).items; phase = Evaluated } in
    let len = inside.values.ok.0 in
    let size = count_values n c.evaluate.new.values c.evaluate.ensures.widths in
    let size' = count_values n inside.values.items c.self.invariant.widths in
    let kept = with_items_is inside.values c.evaluate.new.values (omega (arith, len, size, size')) in
    let counted : length (values_of (with_items inside.values c.evaluate.new.values).items) ≡ length (port_names n) =
    ap (λ (l : List Bits). length (values_of l)) kept ∙ length-map c.evaluate.new.values (λ (x : Bits). x.value) ∙ size in
    let evaluated = evaluated_along n (values_of c.args.inputs.now) c.as_slice.result.now inside.states.items c.evaluate.new.values (with_items inside.values c.evaluate.new.values).items c.evaluate.result None c.as_slice.ensures.value (sym kept) c.in-None.is c.evaluate.ensures.row in
    let row : IsRowOfSim old (values_of c.args.inputs.now) new None = record { net = refl; states = refl; phase = refl; values = counted; evaluated = evaluated } in
    record {
      running = subst (λ (o : SimValue). IfRunning o.phase (IsRowOfSim o (values_of c.args.inputs.now) new None)) c.self.view_is (if_running old.phase (IsRowOfSim old (values_of c.args.inputs.now) new None) row);
      stopped = subst (λ (o : SimValue). IfStopped o.phase (λ port. (new ≡ o) × (let r : Result (Unit {0}) Conflict = Ok tt in let e : Result (Unit {0}) Conflict = Err (record { port = port }) in r ≡ e))) c.self.view_is (if_not_stopped old.phase _ c.in_default.not-Stopped);
    }

pub returns-in-Some : goal.returns-in-Some
returns-in-Some c =
    let inside = c.self.inside in
    let plan = inside.plan in
    let n = netlist_of plan.net.now in
    let states = map (λ (s : CellValue). s.state) inside.states.items in
    let old : SimValue = record { net = plan.net.now; states = states; values = values_of inside.values.items; phase = inside.phase } in
    let new : SimValue = record { net = plan.net.now; states = states; values = values_of (with_items inside.values c.evaluate.new.values).items; phase = Stopped c.in-Some.port } in
    let len = inside.values.ok.0 in
    let size = count_values n c.evaluate.new.values c.evaluate.ensures.widths in
    let size' = count_values n inside.values.items c.self.invariant.widths in
    let kept = with_items_is inside.values c.evaluate.new.values (omega (arith, len, size, size')) in
    let counted : length (values_of (with_items inside.values c.evaluate.new.values).items) ≡ length (port_names n) =
    ap (λ (l : List Bits). length (values_of l)) kept ∙ length-map c.evaluate.new.values (λ (x : Bits). x.value) ∙ size in
    let evaluated = evaluated_along n (values_of c.args.inputs.now) c.as_slice.result.now inside.states.items c.evaluate.new.values (with_items inside.values c.evaluate.new.values).items c.evaluate.result (Some c.in-Some.port) c.as_slice.ensures.value (sym kept) c.in-Some.is c.evaluate.ensures.row in
    let row : IsRowOfSim old (values_of c.args.inputs.now) new (Some c.in-Some.port) = record { net = refl; states = refl; phase = refl; values = counted; evaluated = evaluated } in
    record {
      running = subst (λ (o : SimValue). IfRunning o.phase (IsRowOfSim o (values_of c.args.inputs.now) new (Some c.in-Some.port))) c.self.view_is (if_running old.phase (IsRowOfSim old (values_of c.args.inputs.now) new (Some c.in-Some.port)) row);
      stopped = subst (λ (o : SimValue). IfStopped o.phase (λ port. (new ≡ o) × (let r : Result (Unit {0}) Conflict = Err (record { port = c.in-Some.port }) in let e : Result (Unit {0}) Conflict = Err (record { port = port }) in r ≡ e))) c.self.view_is (if_not_stopped old.phase _ c.in_default.not-Stopped);
    }
