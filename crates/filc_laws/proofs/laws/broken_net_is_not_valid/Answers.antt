use Rattle.filc_laws.proofs.NetRuleLemmas.{broken_net_is_not_valid}
use Rattle.filc_laws.proofs.laws.broken_net_is_not_valid.Goals as goal

pub returns : goal.returns
returns c = broken_net_is_not_valid
