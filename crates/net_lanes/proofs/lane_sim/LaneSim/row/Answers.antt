use Rattle.std.proofs.Common.{◌≡◌, ◌∙◌, ℕ, List, None, Some, All, length, ap, sym, subst, arith}
use Rattle.std.specs.Prelude.{slice_get, slice_index_or}
use Rattle.std.specs.Vec.{with_items}
use Rattle.std.proofs.lemmas.List.{with_items_is}
use Rattle.hw_bits.specs.Values.{widths_of}
use Rattle.net_lanes.specs.Held.{lane_seen, IsRunOf}
use Rattle.net_lanes.specs.Lanes.{LanesValue, IsRowOfLane, EachChanges, lane_inputs}
use Rattle.net_lanes.specs.declared.lane.LaneRun.{LaneRun}
use Rattle.net_lanes.proofs.HeldLemmas.{lanes_of, all_runs, each_changes, row_keeps}
use Rattle.net_lanes.proofs.lane_sim.LaneSim.row.Goals as goal

-- the runs after the row, and the inputs that were written over
runs_are : (c : goal.After-self-2-1) → (with_items c.self.inside.runs c.make_rows.new.runs).items ≡ c.make_rows.new.runs
runs_are c = with_items_is c.self.inside.runs c.make_rows.new.runs (omega (arith, c.make_rows.auto.runs, ap length c.deref_mut.ensures.value, c.self.inside.runs.ok.0))

inputs_are : (c : goal.After-self-2-1) → (with_items c.self.inside.inputs c.make_rows.new.held).items ≡ c.make_rows.new.held
inputs_are c = with_items_is c.self.inside.inputs c.make_rows.new.held (omega (arith, c.make_rows.auto.held, ap length c.deref_mut-2.ensures.value, c.self.inside.inputs.ok.0))

as_many : (c : goal.After-self-2-1) → length c.make_rows.new.runs ≡ length c.self.inside.runs.items
as_many c = omega (arith, c.make_rows.auto.runs, ap length c.deref_mut.ensures.value)

each : (c : goal.After-self-2-1) → (k : ℕ) (o n : LaneRun) → slice_get c.self.inside.runs.items k ≡ Some o → slice_get c.make_rows.new.runs k ≡ Some n
    → IsRowOfLane (lane_inputs k c.args.inputs.now) (slice_index_or c.make_rows.result k None) (lane_seen o) (lane_seen n)
each c =
    subst (λ (old : List LaneRun). (k : ℕ) (o n : LaneRun) → slice_get old k ≡ Some o → slice_get c.make_rows.new.runs k ≡ Some n → IsRowOfLane (lane_inputs k c.args.inputs.now) (slice_index_or c.make_rows.result k None) (lane_seen o) (lane_seen n))
    c.deref_mut.ensures.value c.make_rows.ensures.each

pub invariant_of-self : goal.invariant_of-self
invariant_of-self c =
    let net = c.self.inside.net.now in
    let is = c.self.invariant in
    record {
      count = ap length (runs_are c) ∙ as_many c ∙ is.count;
      runs = subst (λ (rs : List LaneRun). All (IsRunOf net) rs) (sym (runs_are c))
          (all_runs net c.self.inside.runs.items c.make_rows.new.runs (as_many c)
          (λ k o n at at' run. row_keeps net o n (lane_inputs k c.args.inputs.now) (slice_index_or c.make_rows.result k None) (each c k o n at at') run) is.runs);
      inputs = ap widths_of (inputs_are c) ∙ c.make_rows.ensures.widths ∙ ap widths_of c.deref_mut-2.ensures.value ∙ is.inputs;
    }

pub returns : goal.returns
returns c =
    let net = c.self.inside.net.now in
    let old = c.self.inside.runs.items in
    let Changes = λ (k : ℕ). IsRowOfLane (lane_inputs k c.args.inputs.now) (slice_index_or c.make_rows.result k None) in
    subst (λ (v : LanesValue). EachChanges Changes v (lanes_of net (with_items c.self.inside.runs c.make_rows.new.runs).items)) c.self.view_is
    (subst (λ (rs : List LaneRun). EachChanges Changes (lanes_of net old) (lanes_of net rs)) (sym (runs_are c))
    (each_changes net old c.make_rows.new.runs (as_many c) Changes (each c)))
