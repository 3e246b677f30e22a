use Rattle.filc_laws.proofs.NetPlaceLemmas.{net_place_is_one}
use Rattle.filc_laws.proofs.laws.net_place_is_one.Goals as goal

pub returns : goal.returns
returns c = net_place_is_one
