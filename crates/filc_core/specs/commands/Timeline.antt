-- `timeline F S`: what the transactions of the stimulus hold, and when. This project's.
use Rattle.std.specs.Prelude.{List}
use Rattle.hw_names.specs.Name.{Text}
use Rattle.stim_read.specs.TxRun.{Transaction}
use Rattle.filc_report.specs.Transactions.{hold_lines}
use Rattle.filc_core.specs.Arguments.{Arguments}
use Rattle.filc_core.specs.Command.{Command}
use Rattle.filc_core.specs.commands.Transactions.{Top, transactions}

-- a line for each hold
abbrev pub holds_in_top : Top → List Transaction → Text
holds_in_top top txs = hold_lines top.design top.number top.comp txs

abbrev pub timeline : Arguments → Command
timeline = transactions holds_in_top
