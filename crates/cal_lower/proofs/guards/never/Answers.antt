use Rattle.cal_lower.proofs.MadeGuardLemmas.{literal_shown}
use Rattle.cal_lower.proofs.guards.never.Goals as goal

pub returns : goal.returns
returns c = λ names. literal_shown names 0 c.in_ok-new.field-0 c.in_ok-new.ensures.ok
