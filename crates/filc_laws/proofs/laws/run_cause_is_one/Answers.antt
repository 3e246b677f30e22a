use Rattle.filc_laws.proofs.CauseLemmas.{run_cause_is_one}
use Rattle.filc_laws.proofs.laws.run_cause_is_one.Goals as goal

pub returns : goal.returns
returns c = run_cause_is_one
