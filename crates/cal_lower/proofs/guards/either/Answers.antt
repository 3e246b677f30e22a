use Rattle.cal_lower.proofs.MadeGuardLemmas.{either_shown}
use Rattle.cal_lower.proofs.guards.either.Goals as goal

pub returns : goal.returns
returns c = λ names one other left right. either_shown names one other c.in_ok-pair.field-0 (c.in_ok-pair.ensures names one other left right)
