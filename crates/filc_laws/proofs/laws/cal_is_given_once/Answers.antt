use Rattle.filc_laws.proofs.SourceLemmas.{cal_is_given_once}
use Rattle.filc_laws.proofs.laws.cal_is_given_once.Goals as goal

pub returns : goal.returns
returns c = cal_is_given_once
