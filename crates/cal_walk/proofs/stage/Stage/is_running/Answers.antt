use Rattle.std.proofs.Common.{sym, ap}
use Rattle.cal_walk.specs.Stages.{is_running_now}
use Rattle.cal_walk.proofs.StageTreeLemmas.{running_at, not_running}
use Rattle.cal_walk.proofs.stage.Stage.is_running.Goals as goal

pub returns-in-Running : goal.returns-in-Running
returns-in-Running c = λ f h. sym (ap is_running_now (running_at f h c.args.self.now c.in-Running.field-0 c.in-Running.is))

pub returns-in_default : goal.returns-in_default
returns-in_default c = λ f h. not_running f h c.args.self.now c.in_default.not-Running
