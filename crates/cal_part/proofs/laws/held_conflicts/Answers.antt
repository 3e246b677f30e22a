use Rattle.cal_part.proofs.HeldLemmas.{held_conflicts}
use Rattle.cal_part.proofs.laws.held_conflicts.Goals as goal

pub returns : goal.returns
returns c = held_conflicts
