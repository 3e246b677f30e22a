use Rattle.filc_laws.proofs.CalRuleLemmas.{cal_refusal_is_one}
use Rattle.filc_laws.proofs.laws.cal_refusal_is_one.Goals as goal

pub returns : goal.returns
returns c = cal_refusal_is_one
