use Rattle.std.proofs.Common.{◌<◌, length, subst, arith}
use Rattle.net_sim.specs.Sim.{IsWordCountOfSim}
use Rattle.net_lanes.specs.Lanes.{LanesValue, OfLane}
use Rattle.net_lanes.proofs.HeldLemmas.{of_lane}
use Rattle.net_lanes.proofs.lane_sim.LaneSim.word_count.Goals as goal

pub returns : goal.returns
returns c =
    let runs = c.self.inside.runs.items in
    let within : c.args.lane < length runs = omega (arith, c.requires.lane, c.self.invariant.count) in
    subst (λ (v : LanesValue). OfLane v c.args.lane (λ of. IsWordCountOfSim of.sim c.args.mem c.word_count.result)) c.self.view_is
    (of_lane c.self.inside.net.now runs c.args.lane c.index.result.now (λ of. IsWordCountOfSim of.sim c.args.mem c.word_count.result) within c.index.ensures c.word_count.ensures)
