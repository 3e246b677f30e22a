use Rattle.filc_laws.proofs.VerdictLemmas.{one_report}
use Rattle.filc_laws.proofs.laws.one_report.Goals as goal

pub returns : goal.returns
returns c = one_report
