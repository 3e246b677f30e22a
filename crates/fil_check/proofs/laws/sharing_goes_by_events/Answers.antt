use Rattle.fil_check.proofs.UnitLemmas.{sharing_goes_by_events}
use Rattle.fil_check.proofs.laws.sharing_goes_by_events.Goals as goal

pub returns : goal.returns
returns c = sharing_goes_by_events
