use Rattle.std.proofs.Common.{◌≤◌, length, ◌∙◌, arith}
use Rattle.std.proofs.lemmas.List.{length-map}
use Rattle.stim_read.specs.CycleText.{cycles_seen}
use Rattle.stim_read.specs.RunsText.{runs_seen}
use Rattle.stim_read.proofs.CycleRuleLemmas.{entries_kept}
use Rattle.stim_read.proofs.RunsLemmas.{run_there, keep_more, keep_all, judged_more, ends_in_run}
use Rattle.stim_read.proofs.runs.judge_runs.Goals as goal

pub returns-in-Err-clause-cause : goal.returns-in-Err-clause-cause
returns-in-Err-clause-cause c =
    let texts = c.args.texts.now in
    let number = c.loop-number.number in
    let text = c.index-texts-number.result in
    ends_in_run c.args.ins.now c.args.mems.now (runs_seen texts) number (cycles_seen text) c.in-Err.end c.end_in_run.result (run_there texts number text (omega arith) c.index-texts-number.is) c.loop-number.invariant.kept
    c.in-Err.ensures.told c.end_in_run.ensures

pub loop-number-preserved : goal.loop-number-preserved
loop-number-preserved c =
    let ins = c.args.ins.now in
    let mems = c.args.mems.now in
    let texts = c.args.texts.now in
    let number = c.loop-number.number in
    let text = c.index-texts-number.result in
    record {
      kept = keep_more ins mems number (runs_seen texts) (cycles_seen text) (run_there texts number text (omega arith) c.index-texts-number.is) (entries_kept ins mems (cycles_seen text) c.in-Ok.ensures.told) c.loop-number.invariant.kept;
      runs = judged_more ins mems c.loop-number.lists.items c.push.new.self.items c.in-Ok.list texts number text (omega arith) c.index-texts-number.is c.in-Ok.ensures.run c.in_ok-push-in-Ok.ensures.items ∙ c.loop-number.invariant.runs;
    }

pub returns-clause-kept : goal.returns-clause-kept
returns-clause-kept c =
    let texts = c.args.texts.now in
    let past : length (runs_seen texts) ≤ c.loop-number.number = omega (arith, length-map texts cycles_seen) in
    keep_all c.args.ins.now c.args.mems.now c.loop-number.number (runs_seen texts) past c.loop-number.invariant.kept
