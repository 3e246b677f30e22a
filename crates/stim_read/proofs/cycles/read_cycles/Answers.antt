use Rattle.stim_read.specs.CycleText.{cycles_seen}
use Rattle.stim_read.specs.CycleRun.{IsCause, NoStimulus}
use Rattle.stim_read.proofs.FaultLemmas.{passes_cause}
use Rattle.stim_read.proofs.RunFitLemmas.{result_fits_run}
use Rattle.stim_read.proofs.TextLemmas.{gives_run, tells_cause}
use Rattle.stim_read.proofs.cycles.read_cycles.Goals as goal

pub returns-in_err-text-clause-cause : goal.returns-in_err-text-clause-cause
returns-in_err-text-clause-cause c =
    let e = c.in_err-text.field-0.0 in
    passes_cause c.from_residual.result e (IsCause c.args.bytes.now c.args.ins.now c.args.mems.now) c.from_residual.ensures.1 (NoStimulus e c.in_err-text.ensures.cause)

pub returns-clause-run : goal.returns-clause-run
returns-clause-run c = gives_run c.args.bytes.now c.args.ins.now c.args.mems.now (cycles_seen c.in_ok-text.text) c.judge.result c.in_ok-text.ensures.text c.judge.ensures.told c.judge.ensures.run

pub returns-clause-fits : goal.returns-clause-fits
returns-clause-fits c = result_fits_run c.args.bytes.now c.args.ins.now c.args.mems.now c.judge.result (returns-clause-run c)

pub returns-clause-cause : goal.returns-clause-cause
returns-clause-cause c = tells_cause c.args.bytes.now c.args.ins.now c.args.mems.now (cycles_seen c.in_ok-text.text) c.judge.result c.in_ok-text.ensures.text c.judge.ensures.told
