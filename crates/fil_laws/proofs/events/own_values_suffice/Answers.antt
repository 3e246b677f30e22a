use Rattle.fil_laws.proofs.OwnValueLemmas.{own_values_suffice}
use Rattle.fil_laws.proofs.events.own_values_suffice.Goals as goal

pub returns : goal.returns
returns c = own_values_suffice
