use Rattle.fil_check.proofs.NeededLemmas.{meeting_is_real}
use Rattle.fil_check.proofs.laws.meeting_is_real.Goals as goal

pub returns : goal.returns
returns c = meeting_is_real
