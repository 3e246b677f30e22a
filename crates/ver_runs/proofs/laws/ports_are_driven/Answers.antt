use Rattle.ver_runs.proofs.DrivenLemmas.{ports_are_driven}
use Rattle.ver_runs.proofs.laws.ports_are_driven.Goals as goal

pub returns : goal.returns
returns c = ports_are_driven
