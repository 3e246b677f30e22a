use Rattle.std.proofs.Common.{[], ◌∷◌, List, All, length-append, sym, ap, subst, length, arith}
use Rattle.std.proofs.lemmas.List.Elements.{All-push}
use Rattle.net_lanes.specs.Held.{lane_seen}
use Rattle.net_lanes.specs.Lanes.{IsNewLane}
use Rattle.net_lanes.specs.declared.lane.LaneRun.{LaneRun}
use Rattle.net_lanes.proofs.lane_sim.new_runs.Goals as goal

pub loop-lane-preserved : goal.loop-lane-preserved
loop-lane-preserved c =
    let runs = c.loop-lane.runs.items in
    let run = c.in_ok-new.field-0 in
    let is = c.in_ok-push.ensures.items in
    let IsNew = λ (r : LaneRun). IsNewLane c.args.net.now (lane_seen r) in
    record {
      count = omega (arith, ap length is, length-append runs (run ∷ []), c.loop-lane.invariant.count);
      each = subst (λ (rs : List LaneRun). All IsNew rs) (sym {A = List LaneRun} is) (All-push IsNew runs run c.loop-lane.invariant.each c.in_ok-new.ensures);
    }
