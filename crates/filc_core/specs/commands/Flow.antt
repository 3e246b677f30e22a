-- `flow F S`: what each transaction of the stimulus computes. This project's.
use Rattle.std.specs.Prelude.{List}
use Rattle.hw_names.specs.Name.{Text}
use Rattle.stim_read.specs.TxRun.{Transaction}
use Rattle.filc_report.specs.Transactions.{flow_lines}
use Rattle.filc_core.specs.Arguments.{Arguments}
use Rattle.filc_core.specs.Command.{Command}
use Rattle.filc_core.specs.commands.Transactions.{Top, transactions}

-- a line for each transaction
abbrev pub flow_of_top : Top → List Transaction → Text
flow_of_top top txs = flow_lines top.design top.comp 0 txs

abbrev pub flow : Arguments → Command
flow = transactions flow_of_top
