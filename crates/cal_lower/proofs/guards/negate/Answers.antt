use Rattle.cal_lower.proofs.MadeGuardLemmas.{negates_shown}
use Rattle.cal_lower.proofs.guards.negate.Goals as goal

pub returns : goal.returns
returns c = λ names tree shown. negates_shown names tree c.args.guard c.in_ok-new.field-0 c.in_ok-new.ensures.ok shown
