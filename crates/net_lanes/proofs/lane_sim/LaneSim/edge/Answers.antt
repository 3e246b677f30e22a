use Rattle.std.proofs.Common.{◌≡◌, ◌∙◌, ℕ, List, Some, All, length, ap, sym, subst, arith}
use Rattle.std.specs.Prelude.{slice_get}
use Rattle.std.specs.Vec.{with_items}
use Rattle.std.proofs.lemmas.List.{with_items_is}
use Rattle.net_lanes.specs.Held.{lane_seen, IsRunOf}
use Rattle.net_lanes.specs.Lanes.{LanesValue, IsEdgeOfLane, EachChanges}
use Rattle.net_lanes.specs.declared.lane.LaneRun.{LaneRun}
use Rattle.net_lanes.proofs.HeldLemmas.{lanes_of, all_runs, each_changes, edge_keeps}
use Rattle.net_lanes.proofs.lane_sim.LaneSim.edge.Goals as goal

-- the runs after the edge
runs_are : (c : goal.After-self-1) → (with_items c.self.inside.runs c.make_edges.new.runs).items ≡ c.make_edges.new.runs
runs_are c = with_items_is c.self.inside.runs c.make_edges.new.runs (omega (arith, c.make_edges.auto.runs, ap length c.deref_mut.ensures.value, c.self.inside.runs.ok.0))

as_many : (c : goal.After-self-1) → length c.make_edges.new.runs ≡ length c.self.inside.runs.items
as_many c = omega (arith, c.make_edges.auto.runs, ap length c.deref_mut.ensures.value)

each : (c : goal.After-self-1) → (k : ℕ) (o n : LaneRun) → slice_get c.self.inside.runs.items k ≡ Some o → slice_get c.make_edges.new.runs k ≡ Some n → IsEdgeOfLane (lane_seen o) (lane_seen n)
each c = subst (λ (old : List LaneRun). (k : ℕ) (o n : LaneRun) → slice_get old k ≡ Some o → slice_get c.make_edges.new.runs k ≡ Some n → IsEdgeOfLane (lane_seen o) (lane_seen n)) c.deref_mut.ensures.value c.make_edges.ensures

pub invariant_of-self : goal.invariant_of-self
invariant_of-self c =
    let net = c.self.inside.net.now in
    let is = c.self.invariant in
    let new = c.make_edges.new.runs in
    record {
      count = ap length (runs_are c) ∙ as_many c ∙ is.count;
      runs = subst (λ (rs : List LaneRun). All (IsRunOf net) rs) (sym (runs_are c))
          (all_runs net c.self.inside.runs.items new (as_many c) (λ k o n at at' run. edge_keeps net o n (each c k o n at at') run) is.runs);
      inputs = is.inputs;
    }

pub returns : goal.returns
returns c =
    let net = c.self.inside.net.now in
    let old = c.self.inside.runs.items in
    let Changes = λ (k : ℕ). IsEdgeOfLane in
    subst (λ (v : LanesValue). EachChanges Changes v (lanes_of net (with_items c.self.inside.runs c.make_edges.new.runs).items)) c.self.view_is
    (subst (λ (rs : List LaneRun). EachChanges Changes (lanes_of net old) (lanes_of net rs)) (sym (runs_are c))
    (each_changes net old c.make_edges.new.runs (as_many c) Changes (each c)))
