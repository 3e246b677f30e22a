use Rattle.filc_laws.proofs.CalPlaceLemmas.{cal_place_is_one}
use Rattle.filc_laws.proofs.laws.cal_place_is_one.Goals as goal

pub returns : goal.returns
returns c = cal_place_is_one
