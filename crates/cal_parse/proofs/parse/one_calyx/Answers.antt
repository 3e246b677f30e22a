use Rattle.cal_parse.proofs.Designs.{one_tree}
use Rattle.cal_parse.proofs.parse.one_calyx.Goals as goal

pub returns : goal.returns
returns c = one_tree
