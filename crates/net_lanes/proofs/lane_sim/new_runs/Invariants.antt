use Rattle.std.proofs.Common.{◌≡◌, length, All}
use Rattle.net_lanes.specs.Held.{lane_seen}
use Rattle.net_lanes.specs.Lanes.{IsNewLane}
use Rattle.net_lanes.specs.declared.lane.LaneRun.{LaneRun}
use Rattle.net_lanes.proofs.lane_sim.new_runs.Given as goal

-- so many runs, each new
abbrev pub invariant-loop-lane : goal.invariant-loop-lane
invariant-loop-lane l = record {
  count : length l.runs.items ≡ l._lane;
  each : All (λ (run : LaneRun). IsNewLane l.net (lane_seen run)) l.runs.items;
}
