use Rattle.fil_check.proofs.ExactLemmas.{sharing_rules_are_exact}
use Rattle.fil_check.proofs.laws.sharing_rules_are_exact.Goals as goal

pub returns : goal.returns
returns c = sharing_rules_are_exact
