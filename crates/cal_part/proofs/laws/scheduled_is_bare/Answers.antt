use Rattle.cal_part.proofs.WiredLemmas.{scheduled_is_bare}
use Rattle.cal_part.proofs.laws.scheduled_is_bare.Goals as goal

pub returns : goal.returns
returns c = scheduled_is_bare
