use Rattle.cal_net.proofs.RefineLemmas.{flattened_wires_refine}
use Rattle.cal_net.proofs.laws.flattened_wires_refine.Goals as goal

pub returns : goal.returns
returns c = flattened_wires_refine
