use Rattle.filc_laws.proofs.StimulusLemmas.{run_is_refused_once}
use Rattle.filc_laws.proofs.laws.run_is_refused_once.Goals as goal

pub returns : goal.returns
returns c = run_is_refused_once
