use Rattle.net_flat.proofs.ValidLemmas.{listing_is_valid}
use Rattle.net_flat.proofs.valid.listings_are_valid.Goals as goal

pub returns : goal.returns
returns c = listing_is_valid
