use Rattle.fil_share.proofs.CarriedLemmas.{transactions_have_own_values}
use Rattle.fil_share.proofs.carried.transactions_have_own_values.Goals as goal

pub returns : goal.returns
returns c = transactions_have_own_values
