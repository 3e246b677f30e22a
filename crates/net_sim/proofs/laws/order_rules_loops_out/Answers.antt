use Rattle.net_sim.proofs.NoLoopLemmas.{order_rules_loops_out}
use Rattle.net_sim.proofs.laws.order_rules_loops_out.Goals as goal

pub returns : goal.returns
returns c = order_rules_loops_out
