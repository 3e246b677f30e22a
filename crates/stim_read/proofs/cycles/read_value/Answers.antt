use Rattle.std.proofs.Common.{sym, subst}
use Rattle.stim_read.specs.CycleRun.{IsNoJson, NoMemory, ByS1}
use Rattle.stim_read.proofs.TextLemmas.{no_json}
use Rattle.stim_read.proofs.cycles.read_value.Goals as goal

pub returns-in-Ok-clause-value : goal.returns-in-Ok-clause-value
returns-in-Ok-clause-value c = record { utf8 = c.in-Ok.ensures.ok.0; reads = c.in-Ok.ensures.ok.1 }

pub returns-in-Err-clause-cause : goal.returns-in-Err-clause-cause
returns-in-Err-clause-cause c = NoMemory

pub returns-in-Err-2-clause-cause : goal.returns-in-Err-2-clause-cause
returns-in-Err-2-clause-cause c = subst (IsNoJson c.args.bytes.now) (sym c.refused.ensures) (ByS1 (no_json c.args.bytes.now c.in-Err.error c.is_memory.result c.if-is_memory.false c.is_memory.ensures c.in-Err.ensures.err))
