use Rattle.fil_share.proofs.LawLemmas.{rules_are_exact}
use Rattle.fil_share.proofs.laws.rules_are_exact.Goals as goal

pub returns : goal.returns
returns c = rules_are_exact
