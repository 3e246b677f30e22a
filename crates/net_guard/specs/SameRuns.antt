-- What a simplified netlist keeps: its runs with their Conflicts, and the rules N1 to N6. This project's.
use Rattle.std.specs.Prelude.{◌↔◌, ℕ, List, Option}
use Rattle.hw_names.specs.Name.{Text}
use Rattle.hw_prims.specs.Row.{Row, Trace}
use Rattle.net_core.specs.Circuit.{HasConflict, Stops}
use Rattle.net_core.specs.Graph.{HasNoLoop}
use Rattle.net_core.specs.Netlist.{Netlist}
use Rattle.net_core.specs.NetRun.{NetRun, net_circuit}
use Rattle.net_core.specs.Rules.{IsValid}
use Rattle.net_guard.specs.Simplified.{IsSimplified}

-- the same runs, which stop alike, and the same Conflicts whatever the row
pub record HaveSameRuns (n m : Netlist) : Type 0 where
  pub runs : (asked : ℕ) (inputs : Trace) (loads : Text → List ℕ) (height : ℕ) (trace : Trace)
      → NetRun m asked inputs loads height trace ↔ NetRun n asked inputs loads height trace
  pub stops : (height : ℕ) (trace : Trace) (stop : Option Text) → Stops (net_circuit m) height trace stop ↔ Stops (net_circuit n) height trace stop
  pub conflicts : (t : ℕ) (row : Row) (port : Text) → HasConflict (net_circuit m) t row port ↔ HasConflict (net_circuit n) t row port

-- the law: what is simplified has the same runs
abbrev pub SimplifiedHasSameRuns : Type 0
SimplifiedHasSameRuns = (old new : Netlist) → IsSimplified old new → HaveSameRuns old new

-- the law: it keeps N1 to N5 where the old one does
abbrev pub SimplifiedIsValid : Type 0
SimplifiedIsValid = (old new : Netlist) → IsSimplified old new → IsValid old → IsValid new

-- the law: and N6
abbrev pub SimplifiedHasNoLoop : Type 0
SimplifiedHasNoLoop = (old new : Netlist) → IsSimplified old new → HasNoLoop old → HasNoLoop new
