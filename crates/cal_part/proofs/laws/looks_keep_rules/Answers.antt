use Rattle.cal_part.proofs.SameLooksLemmas.{looks_keep_rules}
use Rattle.cal_part.proofs.laws.looks_keep_rules.Goals as goal

pub returns : goal.returns
returns c = looks_keep_rules
