use Rattle.std.proofs.Common.{length, ap, ◌∙◌}
use Rattle.cal_walk.specs.Stages.{progress_of}
use Rattle.cal_walk.specs.Trees.{plan_tree}
use Rattle.cal_walk.proofs.StageTreeLemmas.{starts, waits, goes_on, ends, running_within}
use Rattle.cal_walk.proofs.stage.Stage.next.Goals as goal

pub returns-in_ok-after_start-in-Waiting-clause-progress : goal.returns-in_ok-after_start-in-Waiting-clause-progress
returns-in_ok-after_start-in-Waiting-clause-progress c = λ f h s is.
    c.stage_of.ensures.progress f h ∙ ap progress_of (c.in_ok-after_start-in-Waiting.ensures.tree f h s is) ∙ starts f h c.args.self.now (plan_tree f h c.args.plan.now) s c.args.go c.in-Waiting.is c.if-go.true

pub returns-in_ok-after_start-in-Waiting-clause-within : goal.returns-in_ok-after_start-in-Waiting-clause-within
returns-in_ok-after_start-in-Waiting-clause-within c =
    let seen = c.args.seen.now in
    c.stage_of.ensures.within (length seen.done.items) (length seen.reads.items) c.in_ok-after_start-in-Waiting.ensures.within

pub returns-else-go-clause-progress : goal.returns-else-go-clause-progress
returns-else-go-clause-progress c = λ f h s is. waits f h c.args.self.now (plan_tree f h c.args.plan.now) s c.args.go c.in-Waiting.is c.if-go.false

pub after_row-requires : goal.after_row-requires
after_row-requires c =
    let seen = c.args.seen.now in
    running_within (length seen.done.items) (length seen.reads.items) c.args.self.now c.in-Running.left c.in-Running.is c.requires.stage

pub returns-in_ok-after_row-in-Running-clause-progress : goal.returns-in_ok-after_row-in-Running-clause-progress
returns-in_ok-after_row-in-Running-clause-progress c = λ f h s is.
    c.stage_of-in-Running.ensures.progress f h ∙ ap progress_of (c.in_ok-after_row-in-Running.ensures.tree f h s is) ∙ goes_on f h c.args.self.now (plan_tree f h c.args.plan.now) s c.args.go c.in-Running.left c.in-Running.is

pub returns-in_ok-after_row-in-Running-clause-within : goal.returns-in_ok-after_row-in-Running-clause-within
returns-in_ok-after_row-in-Running-clause-within c =
    let seen = c.args.seen.now in
    c.stage_of-in-Running.ensures.within (length seen.done.items) (length seen.reads.items) c.in_ok-after_row-in-Running.ensures.within

pub returns-in-Finished-clause-progress : goal.returns-in-Finished-clause-progress
returns-in-Finished-clause-progress c = λ f h s is. ends f h c.args.self.now (plan_tree f h c.args.plan.now) s c.args.go c.in-Finished.is
