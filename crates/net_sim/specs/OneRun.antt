-- What an order of the ports tells: a netlist has one run, as rows of the same inputs and loads are the same, and it has no
-- loop. This project's.
use Rattle.std.specs.Prelude.{◌≡◌, ℕ, ◌<◌, List, Contains}
use Rattle.hw_names.specs.Name.{Text}
use Rattle.hw_prims.specs.Row.{Trace}
use Rattle.net_core.specs.Circuit.{states_before, IsRow}
use Rattle.net_core.specs.Graph.{HasNoLoop}
use Rattle.net_core.specs.NetRun.{net_circuit, HasPin}
use Rattle.net_core.specs.Netlist.{Netlist}
use Rattle.net_core.specs.Rules.{IsValid}
use Rattle.net_sim.specs.Layout.{port_names}
use Rattle.net_sim.specs.Order.{IsOrderOf}

-- the trace's first rows are rows of the run from these inputs and loads
abbrev pub AreRows : Netlist → Trace → (Text → List ℕ) → ℕ → Trace → Type 0
AreRows n inputs loads height trace = (t : ℕ) → t < height → IsRow (net_circuit n) t (inputs t) (states_before t trace loads) (trace t)

-- the inputs have the same values in each row
abbrev pub SameInputs : Netlist → Trace → Trace → Type 0
SameInputs n inputs other = (t : ℕ) (port : Text) → HasPin n.ins port → inputs t port ≡ other t port

-- where there is an order, rows of the same inputs and loads agree at every port
abbrev pub OneRun : Type 0
OneRun =
    (n : Netlist) → IsValid n → (ports : List ℕ) → IsOrderOf n ports → (inputs other : Trace) (loads : Text → List ℕ) → SameInputs n inputs other →
    (height tall : ℕ) (trace second : Trace) → AreRows n inputs loads height trace → AreRows n other loads tall second →
    (t : ℕ) → t < height → t < tall → (port : Text) → Contains (port_names n) port → trace t port ≡ second t port

-- where there is an order, there is no loop
abbrev pub OrderRulesLoopsOut : Type 0
OrderRulesLoopsOut = (n : Netlist) → IsValid n → (ports : List ℕ) → IsOrderOf n ports → HasNoLoop n
