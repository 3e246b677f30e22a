use Rattle.net_sim.proofs.GiverLemmas.{outputs_more}
use Rattle.net_sim.proofs.plan.add_outputs.Goals as goal

pub loop-output-preserved : goal.loop-output-preserved
loop-output-preserved c = outputs_more c.args.cell c.loop-output.output c.args.givers.now.items c.loop-output.givers.items _ c.loop-output.invariant c.in_ok-push.ensures.items
