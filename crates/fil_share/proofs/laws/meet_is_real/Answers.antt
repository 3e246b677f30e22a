use Rattle.fil_share.proofs.MeetLemmas.{meet_is_real}
use Rattle.fil_share.proofs.laws.meet_is_real.Goals as goal

pub returns : goal.returns
returns c = meet_is_real
