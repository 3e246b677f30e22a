use Rattle.filc_laws.proofs.VerdictLemmas.{one_verdict}
use Rattle.filc_laws.proofs.laws.one_verdict.Goals as goal

pub returns : goal.returns
returns c = one_verdict
