use Rattle.fil_parse.proofs.Designs.{one_tree}
use Rattle.fil_parse.proofs.parse.one_design.Goals as goal

pub returns : goal.returns
returns c = one_tree
