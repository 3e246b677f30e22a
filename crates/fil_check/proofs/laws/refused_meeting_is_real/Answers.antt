use Rattle.fil_check.proofs.RefusedLemmas.{refused_meeting_is_real}
use Rattle.fil_check.proofs.laws.refused_meeting_is_real.Goals as goal

pub returns : goal.returns
returns c = refused_meeting_is_real
