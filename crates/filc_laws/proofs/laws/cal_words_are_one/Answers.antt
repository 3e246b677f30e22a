use Rattle.filc_laws.proofs.CalCostLemmas.{cal_words_are_one}
use Rattle.filc_laws.proofs.laws.cal_words_are_one.Goals as goal

pub returns : goal.returns
returns c = cal_words_are_one
