use Rattle.filc_laws.proofs.FilPlaceLemmas.{fil_place_is_one}
use Rattle.filc_laws.proofs.laws.fil_place_is_one.Goals as goal

pub returns : goal.returns
returns c = fil_place_is_one
