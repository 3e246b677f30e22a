-- That netlists have runs, so that what is said of each run of a netlist is said of some. This project's.
use Rattle.std.specs.Prelude.{ℕ, List}
use Rattle.hw_names.specs.Name.{Text}
use Rattle.hw_prims.specs.Row.{Trace}
use Rattle.net_core.specs.Graph.{HasNoLoop}
use Rattle.net_core.specs.NetRun.{net_circuit}
use Rattle.net_core.specs.Netlist.{Netlist}
use Rattle.net_core.specs.Rules.{IsValid}
use Rattle.net_runs.specs.StoppedRun.{HasRun}

-- by N1 to N6 a netlist has a run, whatever its inputs in each row and the words in its memories are
abbrev pub NetlistsHaveRuns : Type 0
NetlistsHaveRuns =
    (n : Netlist) → IsValid n → HasNoLoop n → (asked : ℕ) (inputs : Trace) (loads : Text → List ℕ) → HasRun (net_circuit n) asked inputs loads
