-- `trace F S` of a Filament design: the text of a netlist that keeps what the design promises, an empty line, and the rows of all ports of that netlist as
-- the stimulus's transactions drive it. This project's.
use Rattle.std.specs.Prelude.{◌⊎◌}
use Rattle.hw_names.specs.Name.{Text}
use Rattle.stim_read.specs.TxRun.{TxRun}
use Rattle.filc_load.specs.Source.{FileGivesFil, IsRefusedForSource}
use Rattle.filc_run.specs.Traced.{IsMadeOf, Traces}
use Rattle.filc_stop.specs.Outcome.{Contents, Outcome}
use Rattle.filc_stop.specs.Stops.{IsOfSource, IsOfStimulus, IsWritingStop}
use Rattle.filc_stop.specs.declared.language.Language.TheVariants.{Filament}
use Rattle.filc_core.specs.Arguments.{Arguments}
use Rattle.filc_core.specs.Command.{Command, of_design_and_stimulus}
use Rattle.filc_core.specs.commands.Making.{IsMadeFrom}
use Rattle.filc_core.specs.commands.Transactions.{Top, GivesTransactionsOf, IsGranted, IsRefusedWithTop}

-- the stimulus gives the top component transactions, and this comes of them
pub record PrintsTrace (a : Arguments) (contents : Contents) (made : Text) (o : Outcome) : Type 0 where
  pub top : Top
  pub run : TxRun
  pub gives : GivesTransactionsOf a contents top run
  pub traces : Traces top.design top.comp run made o

abbrev pub trace_fil : Arguments → Command
trace_fil a =
    record {
      files = of_design_and_stimulus Filament a;
      comes = λ contents made o. IsRefusedForSource contents Filament a.design o ⊎ IsRefusedWithTop a contents o ⊎ PrintsTrace a contents made o;
      makes = λ contents. IsMadeFrom (FileGivesFil contents a.design) IsMadeOf;
      stops = λ why. IsOfSource why ⊎ IsOfStimulus why ⊎ IsWritingStop why;
      granted = IsGranted a;
    }
