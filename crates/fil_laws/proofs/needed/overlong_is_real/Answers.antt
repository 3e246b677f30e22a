use Rattle.fil_laws.proofs.NeededLemmas.{overlong_is_real}
use Rattle.fil_laws.proofs.needed.overlong_is_real.Goals as goal

pub returns : goal.returns
returns c = overlong_is_real
