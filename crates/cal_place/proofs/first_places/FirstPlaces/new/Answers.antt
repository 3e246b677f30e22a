use Rattle.std.proofs.Common.{refl}
use Rattle.cal_place.proofs.FirstLemmas.{firsts_none}
use Rattle.cal_place.proofs.first_places.FirstPlaces.new.Goals as goal

pub returns : goal.returns
returns c = firsts_none _ c.beside.ensures c.new.ensures.items refl
