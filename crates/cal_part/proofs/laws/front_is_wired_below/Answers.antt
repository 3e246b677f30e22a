use Rattle.cal_part.proofs.HeldLemmas.{front_is_wired_below}
use Rattle.cal_part.proofs.laws.front_is_wired_below.Goals as goal

pub returns : goal.returns
returns c = front_is_wired_below
