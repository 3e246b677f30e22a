use Rattle.filc_laws.proofs.FilRuleLemmas.{fil_refusal_is_one}
use Rattle.filc_laws.proofs.laws.fil_refusal_is_one.Goals as goal

pub returns : goal.returns
returns c = fil_refusal_is_one
