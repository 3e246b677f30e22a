use Rattle.hw_prims.proofs.LoadLemmas.{loads_give_opening}
use Rattle.hw_prims.proofs.laws.loads_give_opening.Goals as goal

pub returns : goal.returns
returns c = loads_give_opening
