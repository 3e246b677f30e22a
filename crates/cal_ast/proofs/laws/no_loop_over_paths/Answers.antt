use Rattle.cal_ast.proofs.PathLoopLemmas.{no_loop_over_paths}
use Rattle.cal_ast.proofs.laws.no_loop_over_paths.Goals as goal

pub returns : goal.returns
returns c = no_loop_over_paths
