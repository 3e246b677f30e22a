use Rattle.filc_laws.proofs.CauseLemmas.{transaction_cause_is_one}
use Rattle.filc_laws.proofs.laws.transaction_cause_is_one.Goals as goal

pub returns : goal.returns
returns c = transaction_cause_is_one
