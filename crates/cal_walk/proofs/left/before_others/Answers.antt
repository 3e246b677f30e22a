use Rattle.std.proofs.Common.{sym, ap, ◌∙◌}
use Rattle.cal_ast.specs.Plan.{InTurn, MorePlans}
use Rattle.cal_walk.specs.Trees.{plan_tree, slice_trees, left_tree}
use Rattle.cal_walk.specs.declared.left.Left.{Left}
use Rattle.cal_walk.proofs.NextLemmas.{before_none, before_some}
use Rattle.cal_walk.proofs.left.before_others.Goals as goal

pub returns-then-is_empty-clause-tree : goal.returns-then-is_empty-clause-tree
returns-then-is_empty-clause-tree c = λ f h. before_none (plan_tree f h) (left_tree f h c.args.first) c.args.others.now (sym c.is_empty.ensures ∙ c.if-is_empty.true)

pub returns-clause-tree : goal.returns-clause-tree
returns-clause-tree c = λ f h.
    ap (λ (l : Left). InTurn (MorePlans (left_tree f h l) (slice_trees f h c.args.others.now))) c.in_ok-first.ensures.ok
    ∙ before_some (plan_tree f h) (left_tree f h c.args.first) c.args.others.now (sym c.is_empty.ensures ∙ c.if-is_empty.false)
