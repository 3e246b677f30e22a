-- What a Calyx design costs is one number.
use Rattle.cal_check.specs.Weight.{own_weight, own_words}
use Rattle.filc_load.proofs.CostLemmas.{told_once}
use Rattle.filc_laws.specs.OneCost.{CalWeightIsOne, CalWordsAreOne}

pub cal_weight_is_one : CalWeightIsOne
cal_weight_is_one = λ design weight other p q. told_once design own_weight weight other p q

pub cal_words_are_one : CalWordsAreOne
cal_words_are_one = λ design words other p q. told_once design own_words words other p q
