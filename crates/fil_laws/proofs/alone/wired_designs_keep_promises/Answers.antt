use Rattle.fil_laws.proofs.AloneLemmas.{wired_designs_keep_promises}
use Rattle.fil_laws.proofs.alone.wired_designs_keep_promises.Goals as goal

pub returns : goal.returns
returns c = wired_designs_keep_promises
