use Rattle.fil_laws.proofs.AloneLemmas.{instances_carry_theirs}
use Rattle.fil_laws.proofs.alone.instances_carry_theirs.Goals as goal

pub returns : goal.returns
returns c = instances_carry_theirs
