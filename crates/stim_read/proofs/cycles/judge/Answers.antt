use Rattle.std.proofs.Common.{◌≡◌, None, Option, sym, subst}
use Rattle.stim_read.specs.CycleText.{cycles_seen}
use Rattle.stim_read.specs.inside.CycleWalk.{limit_fault, entries_fault}
use Rattle.stim_read.specs.inside.Walk.{first_fault, Tells}
use Rattle.stim_read.specs.declared.stim_end.StimEnd.{StimEnd}
use Rattle.stim_read.proofs.FaultLemmas.{passes, told_first}
use Rattle.stim_read.proofs.cycles.judge.Goals as goal

pub returns-in_err-check_limits-clause-told : goal.returns-in_err-check_limits-clause-told
returns-in_err-check_limits-clause-told c =
    let e = c.in_err-check_limits.field-0.0 in
    passes c.from_residual.result e _ c.from_residual.ensures.1 (told_first e (limit_fault (cycles_seen c.args.text.now)) _ c.in_err-check_limits.ensures)

pub returns-clause-told : goal.returns-clause-told
returns-clause-told c =
    let text = cycles_seen c.args.text.now in
    let kept : limit_fault text ≡ None = c.in_ok-check_limits.ensures in
    subst (λ (o : Option StimEnd). Tells c.judge_entries.result (first_fault o (entries_fault c.args.ins.now c.args.mems.now text))) (sym kept) c.judge_entries.ensures.told
