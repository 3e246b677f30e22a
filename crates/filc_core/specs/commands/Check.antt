-- `check F`: whether the design of a file keeps the rules and the limits. This project's.
use Rattle.std.specs.Prelude.{◌≡◌, ◌⊎◌}
use Rattle.filc_load.specs.Source.{IsAccepted, IsRefusedForSource}
use Rattle.filc_report.specs.Rows.{accepted_text}
use Rattle.filc_stop.specs.Leaving.{MakesNone}
use Rattle.filc_stop.specs.Outcome.{Contents, Outcome, done_with}
use Rattle.filc_stop.specs.Stops.{IsOfSource, IsWritingStop}
use Rattle.filc_core.specs.Arguments.{Arguments}
use Rattle.filc_core.specs.Command.{Command, of_design}

-- the design is accepted, and that is printed
pub record Accepts (a : Arguments) (contents : Contents) (o : Outcome) : Type 0 where
  pub accepted : IsAccepted contents a.language a.design
  pub outcome : o ≡ done_with accepted_text

abbrev pub check : Arguments → Command
check a =
    record {
      files = of_design a.language a;
      comes = λ contents made o. IsRefusedForSource contents a.language a.design o ⊎ Accepts a contents o;
      makes = λ contents. MakesNone;
      stops = λ why. IsOfSource why ⊎ IsWritingStop why;
      granted = λ contents. IsAccepted contents a.language a.design;
    }
