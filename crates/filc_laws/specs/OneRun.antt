-- A netlist that keeps N1 to N6 has one run of the same inputs and words in its memories. This project's.
use Rattle.std.specs.Prelude.{◌≡◌, ℕ, ◌<◌, List, Contains}
use Rattle.hw_names.specs.Name.{Text}
use Rattle.hw_prims.specs.Row.{Trace}
use Rattle.net_core.specs.Graph.{HasNoLoop}
use Rattle.net_core.specs.Netlist.{Netlist}
use Rattle.net_core.specs.Rules.{IsValid}
use Rattle.net_sim.specs.Layout.{port_names}
use Rattle.net_sim.specs.OneRun.{AreRows}

-- its rows agree at every port
abbrev pub RowsAreOne : Type 0
RowsAreOne =
    (n : Netlist) → IsValid n → HasNoLoop n → (inputs : Trace) (loads : Text → List ℕ) (height tall : ℕ) (trace other : Trace) →
    AreRows n inputs loads height trace → AreRows n inputs loads tall other →
    (t : ℕ) → t < height → t < tall → (port : Text) → Contains (port_names n) port → trace t port ≡ other t port
