use Rattle.fil_check.proofs.UnitMeetLemmas.{gap_has_one_meaning}
use Rattle.fil_check.proofs.laws.gap_has_one_meaning.Goals as goal

pub returns : goal.returns
returns c = gap_has_one_meaning
