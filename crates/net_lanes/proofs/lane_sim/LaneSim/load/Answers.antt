use Rattle.std.proofs.Common.{◌≡◌, ◌<◌, length, length-set, set, refl, sym, subst, arith}
use Rattle.net_core.specs.Netlist.{netlist_of}
use Rattle.net_core.specs.declared.net.Net.{Net}
use Rattle.net_sim.specs.Shown.{HasWordWidth}
use Rattle.net_sim.specs.declared.sim.Phase.TheVariants.{Fresh}
use Rattle.net_lanes.specs.Held.{lane_seen}
use Rattle.net_lanes.specs.Lanes.{LanesValue, IsLoadOfLane, OfLane, OneChanges}
use Rattle.net_lanes.specs.declared.lane.LaneRun.{LaneRun}
use Rattle.net_lanes.proofs.HeldLemmas.{lanes_of, lane_at, run_by, one_changes}
use Rattle.net_lanes.proofs.RowLemmas.{set_changes, set_others}
use Rattle.net_lanes.proofs.lane_sim.LaneSim.load.Goals as goal

pub load-requires-clause-fresh : goal.load-requires-clause-fresh
load-requires-clause-fresh c =
    let runs = c.self.inside.runs.items in
    let run = c.index_mut.result.now in
    let within : c.args.lane < length runs = omega (arith, c.requires.lane, c.self.invariant.count) in
    subst (λ (v : LanesValue). OfLane v c.args.lane (λ of. of.sim.phase ≡ Fresh)) (sym c.self.view_is) c.requires.fresh (lane_seen run) (lane_at runs c.args.lane run within c.index_mut.ensures.value)

pub load-requires-clause-width : goal.load-requires-clause-width
load-requires-clause-width c =
    let runs = c.self.inside.runs.items in
    let run = c.index_mut.result.now in
    let within : c.args.lane < length runs = omega (arith, c.requires.lane, c.self.invariant.count) in
    let is = run_by c.self.inside.net.now runs c.args.lane run within c.index_mut.ensures.value c.self.invariant.runs in
    subst (λ (m : Net). HasWordWidth (netlist_of m) c.args.mem c.args.word.width) (sym is.net_is)
    (subst (λ (v : LanesValue). HasWordWidth (netlist_of v.net) c.args.mem c.args.word.width) (sym c.self.view_is) c.requires.width)

pub returns : goal.returns
returns c =
    let net = c.self.inside.net.now in
    let runs = c.self.inside.runs.items in
    let lane = c.args.lane in
    let run = c.index_mut.result.now in
    let after : LaneRun = record { sim = c.load.new.self; rests = run.rests } in
    let Changes = IsLoadOfLane c.args.mem c.args.at c.args.word.value in
    let within : lane < length runs = omega (arith, c.requires.lane, c.self.invariant.count) in
    let made = subst (λ (r : LaneRun). Changes (lane_seen r) (lane_seen after)) c.index_mut.ensures.value (record { sim = c.load.ensures; rests = refl }) in
    subst (λ (v : LanesValue). OneChanges lane Changes v (lanes_of net (set runs lane after))) c.self.view_is
    (one_changes net runs (set runs lane after) (length-set runs lane after) lane Changes (set_changes (λ (o n : LaneRun). Changes (lane_seen o) (lane_seen n)) runs lane after run within made) (set_others runs lane after))
