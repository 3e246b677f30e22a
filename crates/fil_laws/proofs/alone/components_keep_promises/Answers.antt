use Rattle.fil_laws.proofs.AloneLemmas.{components_keep_promises}
use Rattle.fil_laws.proofs.alone.components_keep_promises.Goals as goal

pub returns : goal.returns
returns c = components_keep_promises
