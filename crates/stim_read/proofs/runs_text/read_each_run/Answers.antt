use Rattle.std.proofs.Common.{◌+◌, ◌<◌, ◌≤◌, length, drop, map, option_map, sym, ap, ◌∙◌, arith}
use Rattle.serde_json.specs.View.{view}
use Rattle.stim_read.specs.Parts.{each}
use Rattle.stim_read.specs.CycleText.{cycles_seen}
use Rattle.stim_read.specs.RunsText.{run_in}
use Rattle.stim_read.proofs.EachLemmas.{behind, behind_none, turn_at, stops_at, done_at}
use Rattle.stim_read.proofs.runs_text.read_each_run.Goals as goal

pub loop-value-init : goal.loop-value-init
loop-value-init c = rw c.new-runs.ensures.items (behind_none _)

pub returns-in_default : goal.returns-in_default
returns-in_default c =
    let values = c.args.values.now in
    let i = c.loop-value.value-index in
    let within : i < length values = omega arith in
    sym (stops_at view (run_in c.args.version) (map cycles_seen c.loop-value.runs.items) values i c.value-item.result within c.value-item.is (sym c.in_ok-run.ensures ∙ ap (option_map cycles_seen) c.in_default.is)) ∙ c.loop-value.invariant

pub loop-value-preserved : goal.loop-value-preserved
loop-value-preserved c =
    let values = c.args.values.now in
    let i = c.loop-value.value-index in
    let within : i < length values = omega arith in
    ap (λ ys. behind (map cycles_seen ys) (each (run_in c.args.version) (map view (drop (i + 1) values)))) c.in_ok-push.ensures.items
    ∙ sym (turn_at view (run_in c.args.version) cycles_seen c.loop-value.runs.items values i c.value-item.result c.in-Some.run' within c.value-item.is (sym c.in_ok-run.ensures ∙ ap (option_map cycles_seen) c.in-Some.is))
    ∙ c.loop-value.invariant

pub returns : goal.returns
returns c =
    let values = c.args.values.now in
    let i = c.loop-value.value-index in
    let past : length values ≤ i = omega arith in
    sym (done_at view (run_in c.args.version) (map cycles_seen c.loop-value.runs.items) values i past) ∙ c.loop-value.invariant
