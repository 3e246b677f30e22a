-- Rows of a run as they are passed on, up to a Conflict or a fault of the sink. This project's.
use Rattle.std.specs.Prelude.{◌≡◌, ℕ, suc, ◌<◌, ◌≤◌, List, [], ◌++◌, Option, None, Some, Bool, if◌then◌else◌, map}
use Rattle.hw_io.specs.Writing.{AppendsPrefix, Passes}
use Rattle.hw_names.specs.Name.{Text}
use Rattle.hw_prims.specs.Row.{Row, Trace}
use Rattle.net_core.specs.Circuit.{HasConflict, IsReported}
use Rattle.net_core.specs.NetRun.{NetRun, net_circuit}
use Rattle.net_core.specs.Netlist.{Netlist}
use Rattle.net_core.specs.Rules.{PortLine, ports_of}
use Rattle.net_sim.specs.Order.{IsNamed}
use Rattle.net_sim.specs.Sim.{SimValue, IsRowOfSim, IsEdgeOfSim, port_row}
use Rattle.net_sim.specs.declared.sim.Phase.{Phase}
use Rattle.net_sim.specs.declared.sim.Phase.TheVariants.{Stopped}
use Rattle.filc_report.specs.Rows.{lines_text, outputs_of_net}
use Rattle.filc_report.specs.declared.stream.RowEnd.{RowEnd}
use Rattle.filc_report.specs.declared.stream.RowEnd.TheVariants as ends

-- the ports that a row shows: all, or the outputs
abbrev pub shown_ports : Netlist → Bool → List Text
shown_ports n all = if all then map (λ (p : PortLine). p.name) (ports_of n) else outputs_of_net n

-- a Conflict has ended the run
abbrev pub IsStopped : Phase → Type 0
IsStopped (Stopped port) = Unit {0}
IsStopped phase = ⊥

-- rows 0 to t - 1 of a run, none of which has a Conflict
pub record RunsCleanly (n : Netlist) (t : ℕ) (inputs : Trace) (loads : Text → List ℕ) (trace : Trace) : Type 0 where
  pub run : NetRun n t inputs loads t trace
  pub clean : (k : ℕ) (port : Text) → k < t → HasConflict (net_circuit n) k (trace k) port → ⊥

-- the run ends in row t, in which this port's Conflict is reported
pub record RunsIntoConflict (n : Netlist) (asked : ℕ) (inputs : Trace) (loads : Text → List ℕ) (t : ℕ) (port : Text) (trace : Trace) : Type 0 where
  pub run : NetRun n asked inputs loads (suc t) trace
  pub within : t < asked
  pub reported : IsReported (net_circuit n) t (trace t) port

-- no row has a Conflict, and all rows were passed on
pub record StreamsAll (n : Netlist) (line : ℕ → Row → Text) (rows : ℕ) (inputs : Trace) (loads : Text → List ℕ) (out : Option Text) (held : Text)
    (out' : Option Text) (held' : Text) : Type 0 where
  pub trace : Trace
  pub runs : RunsCleanly n rows inputs loads trace
  pub passed : Passes out held out' held' (lines_text line trace rows)

-- a row has a Conflict at the port with this number, and the rows before it were passed on
pub record StreamsToConflict (n : Netlist) (line : ℕ → Row → Text) (rows : ℕ) (inputs : Trace) (loads : Text → List ℕ) (cycle port : ℕ) (out : Option Text)
    (held : Text) (out' : Option Text) (held' : Text) : Type 0 where
  pub trace : Trace
  pub name : Text
  pub named : IsNamed n port name
  pub runs : RunsIntoConflict n rows inputs loads cycle name trace
  pub passed : Passes out held out' held' (lines_text line trace cycle)

-- the sink gained a prefix of what was held and of some first rows; nothing is held
pub record StreamsPart (n : Netlist) (line : ℕ → Row → Text) (rows : ℕ) (inputs : Trace) (loads : Text → List ℕ) (out : Option Text) (held : Text)
    (out' : Option Text) (held' : Text) : Type 0 where
  pub trace : Trace
  pub t : ℕ
  pub within : t ≤ rows
  pub runs : RunsCleanly n t inputs loads trace
  pub emptied : held' ≡ []
  pub prefix : AppendsPrefix out out' (held ++ lines_text line trace t)

-- how the first rows of a run, each by its line, went through what is held into the sink
abbrev pub IsStreamed : Netlist → (ℕ → Row → Text) → ℕ → Trace → (Text → List ℕ) → RowEnd → Option Text → Text → Option Text → Text → Type 0
IsStreamed n line rows inputs loads ends.Done out held out' held' = StreamsAll n line rows inputs loads out held out' held'
IsStreamed n line rows inputs loads (ends.Conflict cycle port) out held out' held' = StreamsToConflict n line rows inputs loads cycle port out held out' held'
IsStreamed n line rows inputs loads ends.WriteFault out held out' held' = StreamsPart n line rows inputs loads out held out' held'

-- a row without a Conflict was evaluated and passed on, and the edge after it was made
pub record PassesRow (n : Netlist) (line : ℕ → Row → Text) (cycle : ℕ) (inputs : List ℕ) (old new : SimValue) (out : Option Text) (held : Text)
    (out' : Option Text) (held' : Text) : Type 0 where
  pub between : SimValue
  pub row : IsRowOfSim old inputs between None
  pub edge : IsEdgeOfSim between new
  pub passed : Passes out held out' held' (line cycle (port_row n between.values))

-- the row has a Conflict, and nothing was passed on
pub record FindsConflict (cycle port this : ℕ) (inputs : List ℕ) (old new : SimValue) (out : Option Text) (held : Text) (out' : Option Text) (held' : Text)
    : Type 0 where
  pub at : cycle ≡ this
  pub row : IsRowOfSim old inputs new (Some port)
  pub passed : Passes out held out' held' []

-- a row without a Conflict was evaluated, and the sink gained a prefix of what was held and of its line
pub record FailsInRow (n : Netlist) (line : ℕ → Row → Text) (cycle : ℕ) (inputs : List ℕ) (old new : SimValue) (out : Option Text) (held : Text)
    (out' : Option Text) (held' : Text) : Type 0 where
  pub row : IsRowOfSim old inputs new None
  pub emptied : held' ≡ []
  pub prefix : AppendsPrefix out out' (held ++ line cycle (port_row n new.values))

abbrev pub IsRowStreamed : Netlist → (ℕ → Row → Text) → ℕ → List ℕ → RowEnd → SimValue → SimValue → Option Text → Text → Option Text → Text → Type 0
IsRowStreamed n line cycle inputs ends.Done old new out held out' held' = PassesRow n line cycle inputs old new out held out' held'
IsRowStreamed n line cycle inputs (ends.Conflict at port) old new out held out' held' = FindsConflict at port cycle inputs old new out held out' held'
IsRowStreamed n line cycle inputs ends.WriteFault old new out held out' held' = FailsInRow n line cycle inputs old new out held out' held'
