use Rattle.filc_laws.proofs.CauseLemmas.{run_is_given_once}
use Rattle.filc_laws.proofs.laws.run_is_given_once.Goals as goal

pub returns : goal.returns
returns c = run_is_given_once
