use Rattle.cal_lower.proofs.PushLemmas.{when_shown}
use Rattle.cal_lower.proofs.pieces.one_when.Goals as goal

pub returns : goal.returns
returns c = λ names tree shown. when_shown names tree c.args.guard shown
