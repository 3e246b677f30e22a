use Rattle.fil_check.proofs.UnitLemmas.{sharing_has_one_meaning}
use Rattle.fil_check.proofs.laws.sharing_has_one_meaning.Goals as goal

pub returns : goal.returns
returns c = sharing_has_one_meaning
