-- `soak N`: the text of a netlist of a design that the program has, an empty line, and what that netlist's run adds up to, as N transactions drive it.
-- It reads no file. This project's.
use Rattle.std.specs.Prelude.{◌≡◌, ◌⊎◌, ◌<◌, ◌≤◌, [], codes}
use Rattle.hw_names.specs.Name.{Text}
use Rattle.hw_limits.specs.declared.limits.TheConstants.{MOST_TRANSACTIONS}
use Rattle.filc_run.specs.Soaked.{Soaks, soak_design}
use Rattle.filc_run.specs.Traced.{IsMadeOf}
use Rattle.filc_stop.specs.Lines.{limit_line}
use Rattle.filc_stop.specs.Outcome.{Outcome, refused_with}
use Rattle.filc_stop.specs.Stops.{IsWritingStop}
use Rattle.filc_stop.specs.declared.ended.Ended.TheVariants.{Limit}
use Rattle.filc_stop.specs.declared.refusal.Refusal.TheVariants as refusal
use Rattle.filc_stop.specs.declared.stop.Stop.{Stop}
use Rattle.filc_stop.specs.declared.stop.Stop.TheVariants as stop
use Rattle.filc_core.specs.Arguments.{Arguments}
use Rattle.filc_core.specs.Command.{Command}

-- more transactions are asked for than the limit
pub record AsksTooMany (a : Arguments) (o : Outcome) : Type 0 where
  pub over : MOST_TRANSACTIONS < a.count
  pub outcome : o ≡ refused_with Limit (limit_line (codes "transactions") a.count MOST_TRANSACTIONS)

-- so many transactions drive the design's netlist
pub record IsSoaked (a : Arguments) (made : Text) (o : Outcome) : Type 0 where
  pub within : a.count ≤ MOST_TRANSACTIONS
  pub soaks : Soaks a.count made o

-- more transactions are asked for than the limit
abbrev pub IsOfCount : Stop → Type 0
IsOfCount (stop.Refused (refusal.StimulusTooLarge count limit cycles)) = Unit {0}
IsOfCount why = ⊥

abbrev pub soak : Arguments → Command
soak a =
    record {
      files = [];
      comes = λ contents made o. AsksTooMany a o ⊎ IsSoaked a made o;
      makes = λ contents. IsMadeOf soak_design;
      stops = λ why. IsOfCount why ⊎ IsWritingStop why;
      granted = λ contents. a.count ≤ MOST_TRANSACTIONS;
    }
