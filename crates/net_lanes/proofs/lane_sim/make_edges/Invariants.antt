use Rattle.std.proofs.Common.{ℕ}
use Rattle.net_lanes.specs.Held.{lane_seen}
use Rattle.net_lanes.specs.Lanes.{IsEdgeOfLane}
use Rattle.net_lanes.specs.declared.lane.LaneRun.{LaneRun}
use Rattle.net_lanes.proofs.RowLemmas.{ChangedUpto}
use Rattle.net_lanes.proofs.lane_sim.make_edges.Given as goal

abbrev pub invariant-loop-lane : goal.invariant-loop-lane
invariant-loop-lane l = ChangedUpto (λ (k : ℕ) (o n : LaneRun). IsEdgeOfLane (lane_seen o) (lane_seen n)) l.lane l.fn.runs l.runs
