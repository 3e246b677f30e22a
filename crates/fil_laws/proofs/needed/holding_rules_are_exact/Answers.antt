use Rattle.fil_laws.proofs.NeededLemmas.{holding_rules_are_exact}
use Rattle.fil_laws.proofs.needed.holding_rules_are_exact.Goals as goal

pub returns : goal.returns
returns c = holding_rules_are_exact
