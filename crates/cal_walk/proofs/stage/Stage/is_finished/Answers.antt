use Rattle.std.proofs.Common.{sym, ap}
use Rattle.cal_walk.specs.Stages.{is_done_now}
use Rattle.cal_walk.proofs.StageTreeLemmas.{finished_at, not_finished}
use Rattle.cal_walk.proofs.stage.Stage.is_finished.Goals as goal

pub returns-in-Finished : goal.returns-in-Finished
returns-in-Finished c = λ f h. sym (ap is_done_now (finished_at f h c.args.self.now c.in-Finished.is))

pub returns-in_default : goal.returns-in_default
returns-in_default c = λ f h. not_finished f h c.args.self.now c.in_default.not-Finished
