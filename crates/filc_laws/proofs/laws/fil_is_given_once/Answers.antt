use Rattle.filc_laws.proofs.SourceLemmas.{fil_is_given_once}
use Rattle.filc_laws.proofs.laws.fil_is_given_once.Goals as goal

pub returns : goal.returns
returns c = fil_is_given_once
