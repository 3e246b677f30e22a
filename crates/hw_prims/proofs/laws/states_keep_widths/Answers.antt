use Rattle.hw_prims.proofs.PrimLemmas.{keeps_widths}
use Rattle.hw_prims.proofs.laws.states_keep_widths.Goals as goal

pub returns : goal.returns
returns c = keeps_widths
