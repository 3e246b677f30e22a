use Rattle.cal_part.proofs.RenamedLemmas.{renamed_is_same}
use Rattle.cal_part.proofs.laws.renamed_is_same.Goals as goal

pub returns : goal.returns
returns c = renamed_is_same
