use Rattle.std.proofs.Common.{length}
use Rattle.cal_walk.specs.Trees.{plan_tree}
use Rattle.cal_walk.proofs.StageTreeLemmas.{starting_wanted, running_wanted, finished_wanted, running_within}
use Rattle.cal_walk.proofs.stage.Stage.mark.Goals as goal

pub returns-in-Waiting-clause-marks : goal.returns-in-Waiting-clause-marks
returns-in-Waiting-clause-marks c = λ f h apart.
    starting_wanted f h c.args.self.now (plan_tree f h c.args.plan.now) c.args.marks.now c.mark_start.new.marks c.in-Waiting.is (c.mark_start.ensures.marks f h apart)

pub mark_left-requires-clause-within : goal.mark_left-requires-clause-within
mark_left-requires-clause-within c =
    let (conditions, within) = c.requires.stage in
    (conditions, running_within (length c.args.marks.now.enabled.items) conditions c.args.self.now c.in-Running.left c.in-Running.is within)

pub returns-in-Running-clause-marks : goal.returns-in-Running-clause-marks
returns-in-Running-clause-marks c = λ f h apart.
    running_wanted f h c.args.self.now (plan_tree f h c.args.plan.now) c.args.marks.now c.mark_left.new.marks c.in-Running.left c.in-Running.is (c.mark_left.ensures.marks f h apart)

pub returns-in-Finished-clause-marks : goal.returns-in-Finished-clause-marks
returns-in-Finished-clause-marks c = λ f h apart. finished_wanted f h c.args.self.now (plan_tree f h c.args.plan.now) c.args.marks.now c.in-Finished.is
