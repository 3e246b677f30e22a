use Rattle.cal_net.proofs.SimplifyLemmas.{simplified_nets_refine}
use Rattle.cal_net.proofs.laws.simplified_nets_refine.Goals as goal

pub returns : goal.returns
returns c = simplified_nets_refine
