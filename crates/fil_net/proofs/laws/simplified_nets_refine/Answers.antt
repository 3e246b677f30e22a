use Rattle.fil_net.proofs.SimplifyLemmas.{simplified_refine}
use Rattle.fil_net.proofs.laws.simplified_nets_refine.Goals as goal

pub returns : goal.returns
returns c = simplified_refine
