use Rattle.cal_ast.specs.Tree.{design_of}
use Rattle.cal_check.proofs.JudgeLemmas.{KeepBefore}
use Rattle.cal_check.proofs.check.judge_components.Given as goal

abbrev pub invariant-loop-number : goal.invariant-loop-number
invariant-loop-number l = KeepBefore (design_of l.overview.design.now) l.number
