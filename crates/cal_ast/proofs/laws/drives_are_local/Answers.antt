use Rattle.cal_ast.proofs.LocalLemmas.{drives_are_local}
use Rattle.cal_ast.proofs.laws.drives_are_local.Goals as goal

pub returns : goal.returns
returns c = drives_are_local
