use Rattle.filc_laws.proofs.existence.VerdictLemmas.{reports_exist}
use Rattle.filc_laws.proofs.laws.reports_exist.Goals as goal

pub returns : goal.returns
returns c = reports_exist
