use Rattle.std.proofs.Common.{◌≡◌, ℕ, None, length}
use Rattle.std.specs.Prelude.{slice_index_or}
use Rattle.hw_bits.specs.Values.{widths_of}
use Rattle.net_lanes.specs.Held.{lane_seen}
use Rattle.net_lanes.specs.Lanes.{lane_inputs, IsRowOfLane}
use Rattle.net_lanes.specs.declared.lane.LaneRun.{LaneRun}
use Rattle.net_lanes.proofs.RowLemmas.{ChangedUpto}
use Rattle.net_lanes.proofs.lane_sim.make_rows.Given as goal

abbrev pub invariant-loop-lane : goal.invariant-loop-lane
invariant-loop-lane l = record {
  told : length l.conflicts ≡ 8;
  widths : widths_of l.held ≡ widths_of l.fn.held;
  rows : ChangedUpto (λ (k : ℕ) (o n : LaneRun). IsRowOfLane (lane_inputs k l.inputs) (slice_index_or l.conflicts k None) (lane_seen o) (lane_seen n)) l.lane l.fn.runs l.runs;
}
