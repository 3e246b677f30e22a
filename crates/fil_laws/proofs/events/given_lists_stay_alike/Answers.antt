use Rattle.fil_laws.proofs.AlikeGivenLemmas.{given_lists_stay_alike}
use Rattle.fil_laws.proofs.events.given_lists_stay_alike.Goals as goal

pub returns : goal.returns
returns c = given_lists_stay_alike
