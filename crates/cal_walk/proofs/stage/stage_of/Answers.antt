use Rattle.std.proofs.Common.{sym, ◌∙◌}
use Rattle.cal_walk.specs.Trees.{left_tree}
use Rattle.cal_walk.proofs.StageTreeLemmas.{over_progress, lasting_progress}
use Rattle.cal_walk.proofs.stage.stage_of.Goals as goal

pub returns-then-left_over-clause-progress : goal.returns-then-left_over-clause-progress
returns-then-left_over-clause-progress c = λ f h. over_progress (left_tree f h c.args.left) (sym (c.left_over.ensures f h) ∙ c.if-left_over.true)

pub returns-clause-progress : goal.returns-clause-progress
returns-clause-progress c = λ f h. lasting_progress (left_tree f h c.args.left) (sym (c.left_over.ensures f h) ∙ c.if-left_over.false)
