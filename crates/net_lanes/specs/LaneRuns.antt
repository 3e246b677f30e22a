-- The rows of a lane are those of its own run of the netlist, whatever the other lanes get. This project's.
use Rattle.std.specs.Prelude.{◌≡◌, ◌⊎◌, ℕ, ◌+◌, ◌<◌, List, true, false, Option, None, Some}
use Rattle.hw_names.specs.Name.{Text}
use Rattle.hw_prims.specs.Row.{Trace}
use Rattle.net_core.specs.Circuit.{IsReported}
use Rattle.net_core.specs.NetRun.{net_circuit, NetRun}
use Rattle.net_core.specs.Netlist.{Netlist}
use Rattle.net_sim.specs.Layout.{name_of}
use Rattle.net_sim.specs.Sim.{port_row}
use Rattle.net_sim.specs.Standing.{StandsOn, AreInputsAt, with_row}
use Rattle.net_sim.specs.declared.sim.Phase.TheVariants.{Stopped}
use Rattle.net_lanes.specs.Lanes.{Lane, IsRowOfLane, IsEdgeOfLane}

-- a Conflict has ended the lane's run
abbrev pub IsStopped : Lane → Type 0
IsStopped lane = (port : ℕ) × (lane.sim.phase ≡ Stopped port)

-- where a lane does not rest, a row without a Conflict and then an edge go on to the next row of its run
abbrev pub LanesGoOn : Type 0
LanesGoOn =
    (n : Netlist) (old new next : Lane) (t : ℕ) (inputs : Trace) (values : List ℕ) (loads : Text → List ℕ) (trace : Trace) →
    StandsOn n old.sim t inputs loads trace → AreInputsAt n (inputs t) values → old.rests ≡ false →
    IsRowOfLane values None old new → IsEdgeOfLane new next →
    StandsOn n next.sim (t + 1) inputs loads (with_row trace t (port_row n new.sim.values))

-- a Conflict in row t ends the lane's run with that row, and the least port that has one is reported
abbrev pub LanesEndInTheirConflicts : Type 0
LanesEndInTheirConflicts =
    (n : Netlist) (old new : Lane) (t asked : ℕ) (inputs : Trace) (values : List ℕ) (port : ℕ) (loads : Text → List ℕ) (trace : Trace) →
    t < asked → StandsOn n old.sim t inputs loads trace → AreInputsAt n (inputs t) values → old.rests ≡ false → (IsStopped old → ⊥) →
    IsRowOfLane values (Some port) old new →
    NetRun n asked inputs loads (t + 1) (with_row trace t (port_row n new.sim.values)) ×
    IsReported (net_circuit n) t (port_row n new.sim.values) (name_of n port)

-- a lane whose run is over stays as it is, whatever it gets
abbrev pub LanesStay : Type 0
LanesStay =
    (old new next : Lane) (values : List ℕ) (conflict : Option ℕ) → (old.rests ≡ true) ⊎ IsStopped old →
    IsRowOfLane values conflict old new → IsEdgeOfLane new next →
    next ≡ old
