use Rattle.fil_laws.proofs.FlowLemmas.{events_stay_apart}
use Rattle.fil_laws.proofs.events.events_stay_apart.Goals as goal

pub returns : goal.returns
returns c = events_stay_apart
