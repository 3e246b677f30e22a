use Rattle.net_guard.proofs.LoopLemmas.{has_no_loop}
use Rattle.net_guard.proofs.laws.simplified_has_no_loop.Goals as goal

pub returns : goal.returns
returns c = has_no_loop
