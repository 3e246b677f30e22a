use Rattle.fil_driven.proofs.ShownLemmas.{carried_rows_are_meant}
use Rattle.fil_driven.proofs.laws.carried_rows_are_meant.Goals as goal

pub returns : goal.returns
returns c = carried_rows_are_meant
