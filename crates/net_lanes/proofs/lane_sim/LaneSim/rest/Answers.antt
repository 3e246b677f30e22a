use Rattle.std.proofs.Common.{◌<◌, true, length, length-set, set, refl, subst, arith}
use Rattle.net_lanes.specs.Held.{lane_seen}
use Rattle.net_lanes.specs.Lanes.{LanesValue, IsRestOfLane, OneChanges}
use Rattle.net_lanes.specs.declared.lane.LaneRun.{LaneRun}
use Rattle.net_lanes.proofs.HeldLemmas.{lanes_of, one_changes}
use Rattle.net_lanes.proofs.RowLemmas.{set_changes, set_others}
use Rattle.net_lanes.proofs.lane_sim.LaneSim.rest.Goals as goal

pub returns : goal.returns
returns c =
    let net = c.self.inside.net.now in
    let runs = c.self.inside.runs.items in
    let lane = c.args.lane in
    let run = c.index_mut.result.now in
    let after : LaneRun = record { sim = run.sim; rests = true } in
    let within : lane < length runs = omega (arith, c.requires, c.self.invariant.count) in
    let made = subst (λ (r : LaneRun). IsRestOfLane (lane_seen r) (lane_seen after)) c.index_mut.ensures.value refl in
    subst (λ (v : LanesValue). OneChanges lane IsRestOfLane v (lanes_of net (set runs lane after))) c.self.view_is
    (one_changes net runs (set runs lane after) (length-set runs lane after) lane IsRestOfLane (set_changes (λ (o n : LaneRun). IsRestOfLane (lane_seen o) (lane_seen n)) runs lane after run within made) (set_others runs lane after))
