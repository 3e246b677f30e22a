use Rattle.fil_laws.proofs.PathLemmas.{rows_are_of_one_transaction}
use Rattle.fil_laws.proofs.paths.rows_are_of_one_transaction.Goals as goal

pub returns : goal.returns
returns c = rows_are_of_one_transaction
