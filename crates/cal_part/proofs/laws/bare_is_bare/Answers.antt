use Rattle.cal_part.proofs.WiredLemmas.{bare_is_bare}
use Rattle.cal_part.proofs.laws.bare_is_bare.Goals as goal

pub returns : goal.returns
returns c = bare_is_bare
