use Rattle.filc_laws.proofs.CalRuleLemmas.{refused_cal_breaks_rules}
use Rattle.filc_laws.proofs.laws.refused_cal_breaks_rules.Goals as goal

pub returns : goal.returns
returns c = refused_cal_breaks_rules
