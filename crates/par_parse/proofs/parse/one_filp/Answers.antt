use Rattle.par_parse.proofs.Designs.{one_tree}
use Rattle.par_parse.proofs.parse.one_filp.Goals as goal

pub returns : goal.returns
returns c = one_tree
