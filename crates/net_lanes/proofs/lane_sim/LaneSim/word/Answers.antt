use Rattle.std.proofs.Common.{◌<◌, length, subst, arith}
use Rattle.net_core.specs.Netlist.{netlist_of}
use Rattle.net_core.specs.declared.net.Net.{Net}
use Rattle.net_sim.specs.Shown.{HasWordWidth}
use Rattle.net_sim.specs.Sim.{IsWordOfSim}
use Rattle.net_lanes.specs.Lanes.{LanesValue, OfLane}
use Rattle.net_lanes.proofs.HeldLemmas.{of_lane, run_by}
use Rattle.net_lanes.proofs.lane_sim.LaneSim.word.Goals as goal

pub returns-clause-value : goal.returns-clause-value
returns-clause-value c =
    let runs = c.self.inside.runs.items in
    let run = c.index.result.now in
    let within : c.args.lane < length runs = omega (arith, c.requires.lane, c.self.invariant.count) in
    subst (λ (v : LanesValue). OfLane v c.args.lane (λ of. IsWordOfSim of.sim c.args.mem c.args.at c.word.result.value)) c.self.view_is
    (of_lane c.self.inside.net.now runs c.args.lane run (λ of. IsWordOfSim of.sim c.args.mem c.args.at c.word.result.value) within c.index.ensures c.word.ensures.value)

pub returns-clause-width : goal.returns-clause-width
returns-clause-width c =
    let runs = c.self.inside.runs.items in
    let run = c.index.result.now in
    let within : c.args.lane < length runs = omega (arith, c.requires.lane, c.self.invariant.count) in
    let is = run_by c.self.inside.net.now runs c.args.lane run within c.index.ensures c.self.invariant.runs in
    subst (λ (v : LanesValue). HasWordWidth (netlist_of v.net) c.args.mem c.word.result.width) c.self.view_is
    (subst (λ (m : Net). HasWordWidth (netlist_of m) c.args.mem c.word.result.width) is.net_is c.word.ensures.width)
