use Rattle.fil_driven.proofs.DriveLemmas.{driven_runs_carry}
use Rattle.fil_driven.proofs.laws.driven_runs_carry.Goals as goal

pub returns : goal.returns
returns c = driven_runs_carry
