use Rattle.std.proofs.Common.{ℕ, arith}
use Rattle.net_lanes.specs.Held.{lane_seen}
use Rattle.net_lanes.specs.Lanes.{IsEdgeOfLane}
use Rattle.net_lanes.specs.declared.lane.LaneRun.{LaneRun}
use Rattle.net_lanes.proofs.RowLemmas.{changed_more, changed_all}
use Rattle.net_lanes.proofs.lane_sim.make_edges.Goals as goal

pub loop-lane-preserved : goal.loop-lane-preserved
loop-lane-preserved c =
    changed_more (λ (k : ℕ) (o n : LaneRun). IsEdgeOfLane (lane_seen o) (lane_seen n)) c.loop-lane.lane _ c.loop-lane.runs c.edge.new.self c.index-runs-lane.result (omega arith) c.edge.ensures c.loop-lane.invariant

pub returns : goal.returns
returns c =
    changed_all (λ (k : ℕ) (o n : LaneRun). IsEdgeOfLane (lane_seen o) (lane_seen n)) c.loop-lane.lane c.args.runs.now c.loop-lane.runs (omega (arith, c.loop-lane.invariant.all)) c.loop-lane.invariant
