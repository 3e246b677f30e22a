use Rattle.cal_part.proofs.WireRuleLemmas.{wires_keep_rules}
use Rattle.cal_part.proofs.laws.wires_keep_rules.Goals as goal

pub returns : goal.returns
returns c = wires_keep_rules
