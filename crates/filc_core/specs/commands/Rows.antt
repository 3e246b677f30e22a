-- `rows F N`: the rows of a netlist's outputs for so many cycles, in which each input is 0, and then its shown memories. This project's.
use Rattle.std.specs.Prelude.{◌≡◌, ◌⊎◌, ◌<◌, ◌≤◌, codes}
use Rattle.net_core.specs.Netlist.{Netlist}
use Rattle.hw_limits.specs.declared.limits.TheConstants.{MOST_CYCLES}
use Rattle.filc_load.specs.Source.{FileGivesNet, IsRefusedForSource}
use Rattle.filc_report.specs.Runs.{RunComes, plain_run}
use Rattle.filc_stop.specs.Leaving.{MakesNone}
use Rattle.filc_stop.specs.Lines.{limit_line}
use Rattle.filc_stop.specs.Outcome.{Contents, Outcome, refused_with}
use Rattle.filc_stop.specs.Stops.{IsOfSource, IsOfCycles, IsOfRun}
use Rattle.filc_stop.specs.declared.ended.Ended.TheVariants.{Limit}
use Rattle.filc_stop.specs.declared.language.Language.TheVariants.{Netlists}
use Rattle.filc_core.specs.Arguments.{Arguments}
use Rattle.filc_core.specs.Command.{Command, of_design}

-- more cycles are asked for than the limit
pub record AsksTooMany (a : Arguments) (contents : Contents) (o : Outcome) : Type 0 where
  pub net : Netlist
  pub gives : FileGivesNet contents a.design net
  pub over : MOST_CYCLES < a.count
  pub outcome : o ≡ refused_with Limit (limit_line (codes "cycles") a.count MOST_CYCLES)

-- the netlist is run
pub record Runs (a : Arguments) (contents : Contents) (o : Outcome) : Type 0 where
  pub net : Netlist
  pub gives : FileGivesNet contents a.design net
  pub within : a.count ≤ MOST_CYCLES
  pub run : RunComes (plain_run net a.count) o

-- the file gives a netlist, and its rows are within the limit
pub record IsGranted (a : Arguments) (contents : Contents) : Type 0 where
  pub net : Netlist
  pub gives : FileGivesNet contents a.design net
  pub within : a.count ≤ MOST_CYCLES

abbrev pub rows : Arguments → Command
rows a =
    record {
      files = of_design Netlists a;
      comes = λ contents made o. IsRefusedForSource contents Netlists a.design o ⊎ AsksTooMany a contents o ⊎ Runs a contents o;
      makes = λ contents. MakesNone;
      stops = λ why. IsOfSource why ⊎ IsOfCycles why ⊎ IsOfRun why;
      granted = IsGranted a;
    }
