use Rattle.filc_laws.proofs.NetRuleLemmas.{net_rule_is_one}
use Rattle.filc_laws.proofs.laws.net_rule_is_one.Goals as goal

pub returns : goal.returns
returns c = net_rule_is_one
