-- How a simulation stands at a row of a run: how it comes there, goes on and ends. This project's.
use Rattle.std.specs.Prelude.{◌≡◌, ◌==◌, ℕ, ◌+◌, ◌<◌, List, if◌then◌else◌, Some, None}
use Rattle.hw_names.specs.Name.{Text}
use Rattle.hw_prims.specs.Row.{Row, Trace}
use Rattle.hw_prims.specs.declared.prim.Primitive.{Primitive}
use Rattle.net_core.specs.Circuit.{states_before, IsRow, HasConflict, IsReported}
use Rattle.net_core.specs.NetRun.{net_circuit, HasPin, IsNetCell, NetRun}
use Rattle.net_core.specs.Netlist.{Netlist, netlist_of}
use Rattle.net_core.specs.Rules.{IsValid}
use Rattle.net_core.specs.declared.net.Net.{Net}
use Rattle.net_sim.specs.Layout.{name_of}
use Rattle.net_sim.specs.Shown.{IsShown, HasWord, with_word}
use Rattle.net_sim.specs.Sim.{SimValue, IsLoadedSim, IsLoadOfSim, IsRowOfSim, IsEdgeOfSim, states_of, input_row, port_row}

-- before row t of the run from these inputs and loads: the trace's first t rows are the run's, without a Conflict, and its states are the simulation's
pub record StandsOn (n : Netlist) (sim : SimValue) (t : ℕ) (inputs : Trace) (loads : Text → List ℕ) (trace : Trace) : Type 0 where
  pub net : netlist_of sim.net ≡ n
  pub rows : (u : ℕ) → u < t → IsRow (net_circuit n) u (inputs u) (states_before u trace loads) (trace u)
  pub clean : (u : ℕ) → u < t → (port : Text) → HasConflict (net_circuit n) u (trace u) port → ⊥
  pub states : (cell : Text) (prim : Primitive) → IsNetCell n cell prim → states_of n sim.states cell prim ≡ states_before t trace loads cell prim

-- some trace stands so
abbrev pub StandsAt : Netlist → SimValue → ℕ → Trace → (Text → List ℕ) → Type 0
StandsAt n sim t inputs loads = (trace : Trace) × StandsOn n sim t inputs loads trace

-- the trace with this row at t
abbrev pub with_row : Trace → ℕ → Row → Trace
with_row trace t row u = if u == t then row else trace u

-- a row's inputs, by their names, are these values
abbrev pub AreInputsAt : Netlist → Row → List ℕ → Type 0
AreInputsAt n row inputs = (port : Text) → HasPin n.ins port → row port ≡ input_row n inputs port

-- before the first row a simulation stands at row 0 of each run with the words that are loaded
abbrev pub StandsAtStart : Type 0
StandsAtStart =
    (net : Net) (loads : Text → List ℕ) (sim : SimValue) (inputs trace : Trace) → IsLoadedSim net loads sim → StandsOn (netlist_of net) sim 0 inputs loads trace

-- a load changes one word of what is loaded
abbrev pub LoadsOneWord : Type 0
LoadsOneWord =
    (net : Net) (loads : Text → List ℕ) (sim new : SimValue) (mem at word : ℕ) (cell : Text) (prim : Primitive) →
    IsValid (netlist_of net) → IsShown (netlist_of net) mem cell prim → HasWord (netlist_of net) mem at → IsLoadedSim net loads sim →
    IsLoadOfSim sim mem at word new →
    IsLoadedSim net (with_word loads cell prim at word) new

-- a row without a Conflict, and then an edge, go on to the next row
abbrev pub StandsAtNext : Type 0
StandsAtNext =
    (n : Netlist) (sim new next : SimValue) (t : ℕ) (inputs : Trace) (values : List ℕ) (loads : Text → List ℕ) (trace : Trace) →
    StandsOn n sim t inputs loads trace → AreInputsAt n (inputs t) values → IsRowOfSim sim values new None → IsEdgeOfSim new next →
    StandsOn n next (t + 1) inputs loads (with_row trace t (port_row n new.values))

-- after all rows that were asked the run is over
abbrev pub EndsAfterAll : Type 0
EndsAfterAll =
    (n : Netlist) (sim : SimValue) (asked : ℕ) (inputs : Trace) (loads : Text → List ℕ) (trace : Trace) →
    StandsOn n sim asked inputs loads trace → NetRun n asked inputs loads asked trace

-- a Conflict in row t ends the run with that row, and the least port that has one is reported
abbrev pub EndsInItsConflict : Type 0
EndsInItsConflict =
    (n : Netlist) (sim new : SimValue) (t asked : ℕ) (inputs : Trace) (values : List ℕ) (port : ℕ) (loads : Text → List ℕ) (trace : Trace) →
    t < asked → StandsOn n sim t inputs loads trace → AreInputsAt n (inputs t) values → IsRowOfSim sim values new (Some port) →
    NetRun n asked inputs loads (t + 1) (with_row trace t (port_row n new.values)) × IsReported (net_circuit n) t (port_row n new.values) (name_of n port)
