use Rattle.filc_laws.proofs.ReportLemmas.{run_is_one}
use Rattle.filc_laws.proofs.laws.run_is_one.Goals as goal

pub returns : goal.returns
returns c = run_is_one
