use Rattle.fil_share.proofs.CarriedLemmas.{transactions_keep_flow}
use Rattle.fil_share.proofs.carried.transactions_keep_flow.Goals as goal

pub returns : goal.returns
returns c = transactions_keep_flow
