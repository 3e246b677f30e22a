-- `sched F S` of a Calyx design: the rows of the top component's outputs under a stimulus, in each the groups and invokes that act, as its schedule means
-- them, and then its observable memories. This project's.
use Rattle.filc_calyx.specs.Scheduled.{Schedules}
use Rattle.filc_stop.specs.Leaving.{MakesNone}
use Rattle.filc_core.specs.Arguments.{Arguments}
use Rattle.filc_core.specs.Command.{Command}
use Rattle.filc_core.specs.commands.CalRun.{cal_run}

abbrev pub sched_cal : Arguments → Command
sched_cal = cal_run (λ d made o. Schedules d o) (λ contents file. MakesNone)
