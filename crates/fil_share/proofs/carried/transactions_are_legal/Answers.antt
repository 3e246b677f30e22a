use Rattle.fil_share.proofs.CarriedLemmas.{transactions_are_legal}
use Rattle.fil_share.proofs.carried.transactions_are_legal.Goals as goal

pub returns : goal.returns
returns c = transactions_are_legal
