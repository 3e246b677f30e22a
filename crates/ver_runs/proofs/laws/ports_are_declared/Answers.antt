use Rattle.ver_runs.proofs.WidthLemmas.{ports_are_declared}
use Rattle.ver_runs.proofs.laws.ports_are_declared.Goals as goal

pub returns : goal.returns
returns c = ports_are_declared
