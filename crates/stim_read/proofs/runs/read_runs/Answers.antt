use Rattle.std.proofs.Common.{◌≡◌, ◌⊎◌, List, map, All, IfOk, IfErr, OnOk, subst}
use Rattle.stim_read.specs.CycleRules.{KeepsEntryRules}
use Rattle.stim_read.specs.CycleRun.{run_of, run_seen}
use Rattle.stim_read.specs.Runs.{IsRunsCause}
use Rattle.stim_read.specs.RunsRules.{KeepLimits, GoOver, BreakInRun}
use Rattle.stim_read.specs.RunsText.{runs_seen}
use Rattle.stim_read.specs.declared.cycle_text.CycleText.{CycleText}
use Rattle.stim_read.specs.declared.runs_end.RunsEnd.TheVariants as runs_end
use Rattle.stim_read.proofs.RunsLemmas.{unsaid_cause, limit_cause, runs_cause, result_gives, result_counts, result_fits, passes_end}
use Rattle.stim_read.proofs.runs.read_runs.Goals as goal

pub returns-in-Err-clause-cause : goal.returns-in-Err-clause-cause
returns-in-Err-clause-cause c = unsaid_cause c.args.ins.now c.args.mems.now c.args.bytes.now c.in-Err.end c.end_in_run.result c.in-Err.ensures.cause c.end_in_run.ensures

pub returns-in_err-check_limits-clause-cause : goal.returns-in_err-check_limits-clause-cause
returns-in_err-check_limits-clause-cause c =
    let ins = c.args.ins.now in
    let mems = c.args.mems.now in
    let bytes = c.args.bytes.now in
    let texts = c.in-Ok.texts.items in
    let e = c.in_err-check_limits.field-0.0 in
    let over : GoOver (runs_seen texts) e = subst (λ (ts : List CycleText). GoOver (runs_seen ts) e) c.deref.ensures.value c.in_err-check_limits.ensures.cause in
    passes_end c.from_residual.result e (IsRunsCause bytes ins mems) c.from_residual.ensures.1 (limit_cause ins mems bytes (runs_seen texts) e c.in-Ok.ensures.texts over)

-- what the two steps before say of the texts
limits : (c : goal.After-drop-texts-2) → KeepLimits (runs_seen c.in-Ok.texts.items)
limits c = subst (λ (ts : List CycleText). KeepLimits (runs_seen ts)) c.deref.ensures.value c.in_ok-check_limits.ensures.kept

kept : (c : goal.After-drop-texts-2) → OnOk c.judge_runs.result (All (KeepsEntryRules c.args.ins.now c.args.mems.now) (runs_seen c.in-Ok.texts.items))
kept c = subst (λ (ts : List CycleText). OnOk c.judge_runs.result (All (KeepsEntryRules c.args.ins.now c.args.mems.now) (runs_seen ts))) c.deref-2.ensures.value c.judge_runs.ensures.kept

runs : (c : goal.After-drop-texts-2) → IfOk c.judge_runs.result (λ lists. map run_seen lists.items ≡ map (run_of c.args.ins.now c.args.mems.now) (runs_seen c.in-Ok.texts.items))
runs c =
    subst (λ (ts : List CycleText). IfOk c.judge_runs.result (λ lists. map run_seen lists.items ≡ map (run_of c.args.ins.now c.args.mems.now) (runs_seen ts))) c.deref-2.ensures.value c.judge_runs.ensures.runs

pub returns-clause-runs : goal.returns-clause-runs
returns-clause-runs c = result_gives c.args.ins.now c.args.mems.now c.args.bytes.now (runs_seen c.in-Ok.texts.items) c.judge_runs.result c.in-Ok.ensures.texts (limits c) (kept c) (runs c)

pub returns-clause-count : goal.returns-clause-count
returns-clause-count c = result_counts c.args.ins.now c.args.mems.now c.args.bytes.now (runs_seen c.in-Ok.texts.items) c.judge_runs.result c.in-Ok.ensures.texts (runs c)

pub returns-clause-fits : goal.returns-clause-fits
returns-clause-fits c = result_fits c.args.ins.now c.args.mems.now (runs_seen c.in-Ok.texts.items) c.judge_runs.result (kept c) (runs c)

pub returns-clause-cause : goal.returns-clause-cause
returns-clause-cause c =
    let ins = c.args.ins.now in
    let mems = c.args.mems.now in
    let cause =
    subst (λ (ts : List CycleText). IfErr c.judge_runs.result (λ end. (end ≡ runs_end.Memory) ⊎ BreakInRun ins mems (runs_seen ts) end)) c.deref-2.ensures.value c.judge_runs.ensures.cause in
    runs_cause ins mems c.args.bytes.now (runs_seen c.in-Ok.texts.items) c.judge_runs.result c.in-Ok.ensures.texts (limits c) cause
