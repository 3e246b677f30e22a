use Rattle.filc_laws.proofs.CauseLemmas.{transactions_are_given_once}
use Rattle.filc_laws.proofs.laws.transactions_are_given_once.Goals as goal

pub returns : goal.returns
returns c = transactions_are_given_once
