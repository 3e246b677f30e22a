use Rattle.cal_part.proofs.RenamedLemmas.{renamed_keeps_rules}
use Rattle.cal_part.proofs.laws.renamed_keeps_rules.Goals as goal

pub returns : goal.returns
returns c = renamed_keeps_rules
