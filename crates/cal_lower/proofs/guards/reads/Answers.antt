use Rattle.cal_lower.proofs.MadeGuardLemmas.{reads_shown}
use Rattle.cal_lower.proofs.guards.reads.Goals as goal

pub returns : goal.returns
returns c = λ names tree shown. reads_shown names tree c.args.port c.in_ok-new.field-0 c.in_ok-new.ensures.ok shown
