use Rattle.filc_laws.proofs.existence.VerdictLemmas.{verdicts_exist}
use Rattle.filc_laws.proofs.laws.verdicts_exist.Goals as goal

pub returns : goal.returns
returns c = verdicts_exist
