use Rattle.cal_part.proofs.RenamedLemmas.{renamed_is_wired}
use Rattle.cal_part.proofs.laws.renamed_is_wired.Goals as goal

pub returns : goal.returns
returns c = renamed_is_wired
