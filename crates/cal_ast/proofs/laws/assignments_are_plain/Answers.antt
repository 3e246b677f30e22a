use Rattle.cal_ast.proofs.PathLoopLemmas.{assignments_are_plain}
use Rattle.cal_ast.proofs.laws.assignments_are_plain.Goals as goal

pub returns : goal.returns
returns c = assignments_are_plain
