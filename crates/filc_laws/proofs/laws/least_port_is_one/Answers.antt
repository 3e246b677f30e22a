use Rattle.filc_laws.proofs.NetRuleLemmas.{least_port_is_one}
use Rattle.filc_laws.proofs.laws.least_port_is_one.Goals as goal

pub returns : goal.returns
returns c = least_port_is_one
