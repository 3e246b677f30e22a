use Rattle.std.proofs.Common.{◌∙◌, ◌≤◌, List, All, map, sym, ap, subst}
use Rattle.std.proofs.lemmas.Simd.{map-map}
use Rattle.hw_prims.specs.Table.{Pin}
use Rattle.net_core.specs.Netlist.{pin_of}
use Rattle.net_core.specs.declared.net.NetPort.{NetPort}
use Rattle.net_lanes.proofs.HeldLemmas.{new_lanes, new_are_runs}
use Rattle.net_lanes.proofs.InputLemmas.{inputs_wide}
use Rattle.net_lanes.proofs.lane_sim.LaneSim.new.Goals as goal

pub no_inputs-requires : goal.no_inputs-requires
no_inputs-requires c = subst (λ (ports : List NetPort). All (λ (p : NetPort). (1 ≤ p.width) × (p.width ≤ 128)) ports) (sym c.deref.ensures.value) (inputs_wide c.args.net.now c.requires.valid)

pub invariant_of-result : goal.invariant_of-result
invariant_of-result c =
    let net = c.args.net.now in
    record {
      count = c.in_ok-runs.ensures.count;
      runs = new_are_runs net c.in_ok-runs.runs.items c.in_ok-runs.ensures.each;
      inputs = c.in_ok-inputs.ensures ∙ ap (map (λ (p : NetPort). p.width)) c.deref.ensures.value ∙ sym (map-map (λ (p : Pin). p.width) (pin_of net.names) net.ins.items);
    }

pub returns : goal.returns
returns c = new_lanes c.args.net.now c.in_ok-runs.runs.items c.in_ok-runs.ensures.count c.in_ok-runs.ensures.each
