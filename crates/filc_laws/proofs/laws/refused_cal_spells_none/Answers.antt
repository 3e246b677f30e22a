use Rattle.filc_laws.proofs.CalPlaceLemmas.{refused_cal_spells_none}
use Rattle.filc_laws.proofs.laws.refused_cal_spells_none.Goals as goal

pub returns : goal.returns
returns c = refused_cal_spells_none
