use Rattle.fil_driven.proofs.FitLemmas.{transactions_fit}
use Rattle.fil_driven.proofs.laws.transactions_fit.Goals as goal

pub returns : goal.returns
returns c = transactions_fit
