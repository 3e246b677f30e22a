use Rattle.filc_laws.proofs.existence.VerdictLemmas.{plain_verdicts_exist}
use Rattle.filc_laws.proofs.laws.plain_verdicts_exist.Goals as goal

pub returns : goal.returns
returns c = plain_verdicts_exist
