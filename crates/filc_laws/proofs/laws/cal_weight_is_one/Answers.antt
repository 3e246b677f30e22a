use Rattle.filc_laws.proofs.CalCostLemmas.{cal_weight_is_one}
use Rattle.filc_laws.proofs.laws.cal_weight_is_one.Goals as goal

pub returns : goal.returns
returns c = cal_weight_is_one
