use Rattle.fil_laws.proofs.NeededLemmas.{designs_hold_nothing_twice}
use Rattle.fil_laws.proofs.needed.designs_hold_nothing_twice.Goals as goal

pub returns : goal.returns
returns c = designs_hold_nothing_twice
