use Rattle.fil_fsm.proofs.DelayLemmas.{chains_delay}
use Rattle.fil_fsm.proofs.laws.chains_delay.Goals as goal

pub returns : goal.returns
returns c = chains_delay
