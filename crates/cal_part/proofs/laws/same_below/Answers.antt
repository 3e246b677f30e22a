use Rattle.cal_part.proofs.SameLemmas.{same_below}
use Rattle.cal_part.proofs.laws.same_below.Goals as goal

pub returns : goal.returns
returns c = same_below
