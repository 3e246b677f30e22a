-- The law, as it stands among the lemmas.
use Rattle.net_flat.proofs.LoopLemmas.{no_loop_in_listings}
use Rattle.net_flat.proofs.no_loop.listings_have_no_loop.Goals as goal

pub returns : goal.returns
returns c = no_loop_in_listings
