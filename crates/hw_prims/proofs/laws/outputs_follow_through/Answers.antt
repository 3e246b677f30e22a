use Rattle.hw_prims.proofs.PrimLemmas.{through_alone}
use Rattle.hw_prims.proofs.laws.outputs_follow_through.Goals as goal

pub returns : goal.returns
returns c = through_alone
