use Rattle.fil_laws.proofs.PathLemmas.{given_lists_are_legal}
use Rattle.fil_laws.proofs.paths.given_lists_are_legal.Goals as goal

pub returns : goal.returns
returns c = given_lists_are_legal
