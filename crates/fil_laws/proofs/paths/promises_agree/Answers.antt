use Rattle.fil_laws.proofs.PathLemmas.{promises_agree}
use Rattle.fil_laws.proofs.paths.promises_agree.Goals as goal

pub returns : goal.returns
returns c = promises_agree
