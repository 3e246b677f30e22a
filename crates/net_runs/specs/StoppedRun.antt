-- That a circuit has a run. This project's.
use Rattle.std.specs.Prelude.{ℕ, List, Option}
use Rattle.hw_names.specs.Name.{Text}
use Rattle.hw_prims.specs.Row.{Trace}
use Rattle.net_core.specs.Circuit.{Circuit, IsRun, Stops}

-- a run for `asked` rows of inputs, from these words in its memories, and how it stops: in the first row with a Conflict, where the least port by bytes
-- that has one is reported, or with no Conflict after all rows that were asked
pub record HasRun (c : Circuit) (asked : ℕ) (inputs : Trace) (loads : Text → List ℕ) : Type 0 where
  pub height : ℕ
  pub trace : Trace
  pub stop : Option Text
  pub run : IsRun c asked inputs loads height trace
  pub stops : Stops c height trace stop
