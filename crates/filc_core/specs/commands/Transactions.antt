-- What the transactions of a stimulus are to the top component of a Filament design: what `flow`, `timeline`, `sim` and `trace` share. This project's.
use Rattle.std.specs.Prelude.{◌≡◌, ◌⊎◌, ℕ, List}
use Rattle.hw_names.specs.Name.{Text}
use Rattle.fil_ast.specs.Tree.{Component, Design}
use Rattle.stim_read.specs.TxRun.{Transaction, TxRun}
use Rattle.filc_load.specs.Source.{FileGivesTop, IsRefusedForSource}
use Rattle.filc_load.specs.StimulusFile.{FileGivesTransactions, IsRefusedForStimulus, transaction_causes}
use Rattle.filc_stop.specs.Leaving.{MakesNone}
use Rattle.filc_stop.specs.Outcome.{Contents, Outcome, done_with}
use Rattle.filc_stop.specs.Stops.{IsOfSource, IsOfStimulus, IsWritingStop}
use Rattle.filc_stop.specs.declared.language.Language.TheVariants.{Filament}
use Rattle.filc_core.specs.Arguments.{Arguments}
use Rattle.filc_core.specs.Command.{Command, of_design_and_stimulus}

-- the design, the number of its top component, and that component
pub record Top : Type 0 where
  pub design : Design
  pub number : ℕ
  pub comp : Component

abbrev pub GivesTop : Contents → Text → Top → Type 0
GivesTop contents file top = FileGivesTop contents file top.design top.number top.comp

-- the design is accepted, and the stimulus gives its top component nothing
pub record IsRefusedWithTop (a : Arguments) (contents : Contents) (o : Outcome) : Type 0 where
  pub top : Top
  pub gives : GivesTop contents a.design top
  pub refused : IsRefusedForStimulus contents a.stimulus (λ bytes. transaction_causes bytes top.comp) o

-- the stimulus gives the top component transactions
pub record GivesTransactionsOf (a : Arguments) (contents : Contents) (top : Top) (run : TxRun) : Type 0 where
  pub gives_top : GivesTop contents a.design top
  pub gives_transactions : FileGivesTransactions contents a.stimulus top.comp run

-- what they are is printed
pub record Prints (a : Arguments) (told : Top → List Transaction → Text) (contents : Contents) (o : Outcome) : Type 0 where
  pub top : Top
  pub run : TxRun
  pub gives : GivesTransactionsOf a contents top run
  pub outcome : o ≡ done_with (told top run.transactions)

pub record IsGranted (a : Arguments) (contents : Contents) : Type 0 where
  pub top : Top
  pub run : TxRun
  pub gives : GivesTransactionsOf a contents top run

-- a command that prints this of the transactions
abbrev pub transactions : (Top → List Transaction → Text) → Arguments → Command
transactions told a =
    record {
      files = of_design_and_stimulus Filament a;
      comes = λ contents made o. IsRefusedForSource contents Filament a.design o ⊎ IsRefusedWithTop a contents o ⊎ Prints a told contents o;
      makes = λ contents. MakesNone;
      stops = λ why. IsOfSource why ⊎ IsOfStimulus why ⊎ IsWritingStop why;
      granted = IsGranted a;
    }
