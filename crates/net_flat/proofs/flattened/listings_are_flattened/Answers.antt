use Rattle.net_flat.proofs.FlatLemmas.{listings_are_flattened}
use Rattle.net_flat.proofs.flattened.listings_are_flattened.Goals as goal

pub returns : goal.returns
returns c = listings_are_flattened
