-- A netlist's run under a stimulus: what `sim` and `trace` share. This project's.
use Rattle.std.specs.Prelude.{◌⊎◌, Bool}
use Rattle.hw_names.specs.Name.{Text}
use Rattle.net_core.specs.Netlist.{Netlist}
use Rattle.stim_read.specs.CycleRun.{Run}
use Rattle.filc_load.specs.Source.{FileGivesNet, IsRefusedForSource}
use Rattle.filc_load.specs.StimulusFile.{FileGivesRun, IsRefusedForStimulus, run_causes}
use Rattle.filc_report.specs.Runs.{RunComes, stimulus_run}
use Rattle.filc_stop.specs.Leaving.{MakesNone}
use Rattle.filc_stop.specs.Outcome.{Contents, Outcome}
use Rattle.filc_stop.specs.Stops.{IsOfSource, IsOfStimulus, IsOfRun}
use Rattle.filc_stop.specs.declared.language.Language.TheVariants.{Netlists}
use Rattle.filc_core.specs.Arguments.{Arguments}
use Rattle.filc_core.specs.Command.{Command, of_design_and_stimulus}

-- the netlist is accepted, and the stimulus gives it nothing
pub record IsRefusedWithNet (a : Arguments) (contents : Contents) (o : Outcome) : Type 0 where
  pub net : Netlist
  pub gives : FileGivesNet contents a.design net
  pub refused : IsRefusedForStimulus contents a.stimulus (λ bytes. run_causes bytes net) o

-- the stimulus gives the netlist a run
pub record GivesRunOf (a : Arguments) (contents : Contents) (net : Netlist) (run : Run) : Type 0 where
  pub gives_net : FileGivesNet contents a.design net
  pub gives_run : FileGivesRun contents a.stimulus net run

-- that run is printed, after this text
pub record Runs (a : Arguments) (head : Netlist → Text) (all : Bool) (contents : Contents) (o : Outcome) : Type 0 where
  pub net : Netlist
  pub run : Run
  pub gives : GivesRunOf a contents net run
  pub comes : RunComes (stimulus_run net run (head net) all) o

pub record IsGranted (a : Arguments) (contents : Contents) : Type 0 where
  pub net : Netlist
  pub run : Run
  pub gives : GivesRunOf a contents net run

-- a command that prints this text of a netlist before its rows, and all ports of a row or the outputs alone
abbrev pub net_run : (Netlist → Text) → Bool → Arguments → Command
net_run head all a =
    record {
      files = of_design_and_stimulus Netlists a;
      comes = λ contents made o. IsRefusedForSource contents Netlists a.design o ⊎ IsRefusedWithNet a contents o ⊎ Runs a head all contents o;
      makes = λ contents. MakesNone;
      stops = λ why. IsOfSource why ⊎ IsOfStimulus why ⊎ IsOfRun why;
      granted = IsGranted a;
    }
