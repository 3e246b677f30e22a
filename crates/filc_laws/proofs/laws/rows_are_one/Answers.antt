use Rattle.filc_laws.proofs.RowLemmas.{rows_are_one}
use Rattle.filc_laws.proofs.laws.rows_are_one.Goals as goal

pub returns : goal.returns
returns c = rows_are_one
