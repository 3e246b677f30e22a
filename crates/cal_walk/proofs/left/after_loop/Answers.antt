use Rattle.std.proofs.Common.{sym, ap, ◌∙◌}
use Rattle.std.specs.Prelude.{if◌then◌else◌}
use Rattle.cal_walk.specs.Left.{nothing, left}
use Rattle.cal_walk.specs.Trees.{plan_tree}
use Rattle.cal_walk.proofs.NextLemmas.{tree_same}
use Rattle.cal_walk.proofs.left.after_loop.Goals as goal

pub returns-then-is_over-clause-tree : goal.returns-then-is_over-clause-tree
returns-then-is_over-clause-tree c = λ f h s is.
    sym (ap (λ b. if b then nothing else left s (plan_tree f h c.args.plan.now)) (sym (c.is_over.ensures f h) ∙ c.if-is_over.true))

pub returns-clause-tree : goal.returns-clause-tree
returns-clause-tree c = λ f h s is.
    tree_same f h c.after_start.result _ _
    (sym (ap (λ b. if b then nothing else left s (plan_tree f h c.args.plan.now)) (sym (c.is_over.ensures f h) ∙ c.if-is_over.false)))
    (c.after_start.ensures.tree f h s is)
