use Rattle.cal_lower.proofs.MadeGuardLemmas.{both_shown}
use Rattle.cal_lower.proofs.guards.both.Goals as goal

pub returns : goal.returns
returns c = λ names one other left right. both_shown names one other c.in_ok-pair.field-0 (c.in_ok-pair.ensures names one other left right)
