use Rattle.filc_laws.proofs.ToldLemmas.{only_what_is_told}
use Rattle.filc_laws.proofs.laws.only_what_is_told.Goals as goal

pub returns : goal.returns
returns c = only_what_is_told
