use Rattle.fil_laws.proofs.GivenLemmas.{what_is_given_is_one}
use Rattle.fil_laws.proofs.paths.what_is_given_is_one.Goals as goal

pub returns : goal.returns
returns c = what_is_given_is_one
