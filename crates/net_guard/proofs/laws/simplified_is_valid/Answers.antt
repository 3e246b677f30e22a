use Rattle.net_guard.proofs.RuleLemmas.{is_valid}
use Rattle.net_guard.proofs.laws.simplified_is_valid.Goals as goal

pub returns : goal.returns
returns c = is_valid
