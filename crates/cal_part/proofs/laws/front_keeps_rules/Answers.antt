use Rattle.cal_part.proofs.FrontLemmas.{front_keeps_rules}
use Rattle.cal_part.proofs.laws.front_keeps_rules.Goals as goal

pub returns : goal.returns
returns c = front_keeps_rules
