use Rattle.cal_part.proofs.FrontLemmas.{front_is_wired}
use Rattle.cal_part.proofs.laws.front_is_wired.Goals as goal

pub returns : goal.returns
returns c = front_is_wired
