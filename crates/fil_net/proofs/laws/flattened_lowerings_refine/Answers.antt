use Rattle.fil_net.proofs.RefineLemmas.{flattened_refine}
use Rattle.fil_net.proofs.laws.flattened_lowerings_refine.Goals as goal

pub returns : goal.returns
returns c = flattened_refine
