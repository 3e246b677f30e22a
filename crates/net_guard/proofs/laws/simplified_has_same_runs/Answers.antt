use Rattle.net_guard.proofs.RunLemmas.{keeps_runs}
use Rattle.net_guard.proofs.laws.simplified_has_same_runs.Goals as goal

pub returns : goal.returns
returns c = keeps_runs
