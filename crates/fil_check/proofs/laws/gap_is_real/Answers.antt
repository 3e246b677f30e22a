use Rattle.fil_check.proofs.NeededLemmas.{gap_is_real}
use Rattle.fil_check.proofs.laws.gap_is_real.Goals as goal

pub returns : goal.returns
returns c = gap_is_real
