use Rattle.fil_driven.proofs.AlikeLemmas.{nothing_else_matters}
use Rattle.fil_driven.proofs.laws.nothing_else_matters.Goals as goal

pub returns : goal.returns
returns c = nothing_else_matters
