-- `sim F S` of a Filament design: the rows of the top component's outputs under the stimulus's transactions, as the source means them: in its interval an
-- output has the value that its transaction computes, and elsewhere a dash. This project's.
use Rattle.std.specs.Prelude.{List}
use Rattle.hw_names.specs.Name.{Text}
use Rattle.stim_read.specs.TxRun.{Transaction}
use Rattle.filc_run.specs.Meant.{meant_text}
use Rattle.filc_core.specs.Arguments.{Arguments}
use Rattle.filc_core.specs.Command.{Command}
use Rattle.filc_core.specs.commands.Transactions.{Top, transactions}

-- as many rows as the transactions take
abbrev pub rows_of_top : Top → List Transaction → Text
rows_of_top top txs = meant_text top.design top.comp txs

abbrev pub sim_fil : Arguments → Command
sim_fil = transactions rows_of_top
