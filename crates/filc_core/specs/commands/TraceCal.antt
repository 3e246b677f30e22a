-- `trace F S` of a Calyx design: the text of a netlist that shows what its schedule means, an empty line, the rows of all ports of that netlist under a
-- stimulus, and then its observable memories. This project's.
use Rattle.filc_calyx.specs.Made.{IsMadeOf}
use Rattle.filc_calyx.specs.Means.{Traces}
use Rattle.filc_load.specs.Source.{FileGivesCal}
use Rattle.filc_core.specs.Arguments.{Arguments}
use Rattle.filc_core.specs.Command.{Command}
use Rattle.filc_core.specs.commands.CalRun.{cal_run}
use Rattle.filc_core.specs.commands.Making.{IsMadeFrom}

abbrev pub trace_cal : Arguments → Command
trace_cal = cal_run Traces (λ contents file. IsMadeFrom (FileGivesCal contents file) IsMadeOf)
