use Rattle.filc_laws.proofs.StimulusLemmas.{transactions_are_refused_once}
use Rattle.filc_laws.proofs.laws.transactions_are_refused_once.Goals as goal

pub returns : goal.returns
returns c = transactions_are_refused_once
