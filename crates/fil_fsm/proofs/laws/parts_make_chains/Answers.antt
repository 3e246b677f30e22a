use Rattle.fil_fsm.proofs.PartLemmas.{parts_make_chains}
use Rattle.fil_fsm.proofs.laws.parts_make_chains.Goals as goal

pub returns : goal.returns
returns c = parts_make_chains
