use Rattle.std.proofs.Common.{◌<◌, ◌∙◌, ℕ, List, None, Option, length, length-set, get_or, set, sym, ap, subst, arith, get_or-set_other, get_or-set_same}
use Rattle.hw_prims.specs.Table.{pin_widths}
use Rattle.net_core.specs.Netlist.{netlist_of}
use Rattle.net_lanes.specs.Held.{lane_seen}
use Rattle.net_lanes.specs.Lanes.{lane_inputs, IsRowOfLane}
use Rattle.net_lanes.specs.declared.lane.LaneRun.{LaneRun}
use Rattle.net_lanes.proofs.RowLemmas.{still, changed_as, changed_more, changed_all}
use Rattle.net_lanes.proofs.lane_sim.make_rows.Goals as goal

-- what a row makes of a run, where these are the Conflicts that are told
abbrev Makes : List (List ℕ) → List (Option ℕ) → ℕ → LaneRun → LaneRun → Type 0
Makes inputs conflicts k o n = IsRowOfLane (lane_inputs k inputs) (get_or conflicts k None) (lane_seen o) (lane_seen n)

pub row-requires : goal.row-requires
row-requires c =
    let lane = c.loop-lane.lane in
    let d = c.index-runs-lane.result in
    let so_far = c.loop-lane.invariant.rows in
    let all = so_far.all in
    let within : lane < length c.loop-lane.runs = omega (arith, all, c.requires.count) in
    c.set_inputs.ensures.widths ∙ c.loop-lane.invariant.widths ∙ c.requires.widths lane d (omega (arith, all, within))
    ∙ ap (λ (r : LaneRun). pin_widths (netlist_of r.sim.net).ins) (still (Makes c.args.inputs.now c.loop-lane.conflicts) lane c.args.runs.now c.loop-lane.runs d within so_far)

pub loop-lane-preserved : goal.loop-lane-preserved
loop-lane-preserved c =
    let lane = c.loop-lane.lane in
    let d = c.index-runs-lane.result in
    let inputs = c.args.inputs.now in
    let old = c.loop-lane.conflicts in
    let new = set old lane c.row.result in
    let so_far = c.loop-lane.invariant.rows in
    let all = so_far.all in
    let told = c.loop-lane.invariant.told in
    let within : lane < length c.loop-lane.runs = omega (arith, all, c.requires.count) in
    let kept = changed_as (Makes inputs old) (Makes inputs new) lane c.args.runs.now c.loop-lane.runs
    (λ k o n lt is. subst (λ (conflict : Option ℕ). IsRowOfLane (lane_inputs k inputs) conflict (lane_seen o) (lane_seen n)) (sym (get_or-set_other old lane k c.row.result None (λ e. omega (arith, e, lt)))) is) so_far in
    let made : Makes inputs new lane (get_or c.loop-lane.runs lane d) c.row.new.self =
    subst (λ (conflict : Option ℕ). IsRowOfLane (lane_inputs lane inputs) conflict (lane_seen (get_or c.loop-lane.runs lane d)) (lane_seen c.row.new.self)) (sym (get_or-set_same old lane c.row.result None (omega (arith, told))))
    (subst (λ (values : List ℕ). IsRowOfLane values c.row.result (lane_seen (get_or c.loop-lane.runs lane d)) (lane_seen c.row.new.self)) c.set_inputs.ensures.values c.row.ensures) in
    record {
      told = length-set old lane c.row.result ∙ told;
      widths = c.set_inputs.ensures.widths ∙ c.loop-lane.invariant.widths;
      rows = changed_more (Makes inputs new) lane _ c.loop-lane.runs c.row.new.self d within made kept;
    }

pub returns-clause-each : goal.returns-clause-each
returns-clause-each c =
    changed_all (Makes c.args.inputs.now c.loop-lane.conflicts) c.loop-lane.lane c.args.runs.now c.loop-lane.runs (omega (arith, c.requires.count)) c.loop-lane.invariant.rows
