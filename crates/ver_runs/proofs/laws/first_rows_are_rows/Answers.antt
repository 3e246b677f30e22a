use Rattle.ver_runs.proofs.RowLemmas.{first_rows_are_rows}
use Rattle.ver_runs.proofs.laws.first_rows_are_rows.Goals as goal

pub returns : goal.returns
returns c = first_rows_are_rows
