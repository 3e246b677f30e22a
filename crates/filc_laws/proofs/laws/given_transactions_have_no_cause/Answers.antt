use Rattle.filc_laws.proofs.CauseLemmas.{given_transactions_have_no_cause}
use Rattle.filc_laws.proofs.laws.given_transactions_have_no_cause.Goals as goal

pub returns : goal.returns
returns c = given_transactions_have_no_cause
