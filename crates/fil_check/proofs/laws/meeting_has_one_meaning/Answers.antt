use Rattle.fil_check.proofs.UnitMeetLemmas.{meeting_has_one_meaning}
use Rattle.fil_check.proofs.laws.meeting_has_one_meaning.Goals as goal

pub returns : goal.returns
returns c = meeting_has_one_meaning
