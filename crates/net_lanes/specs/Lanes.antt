-- Lanes: runs of one netlist side by side, each by itself; what rows, edges and loads make of them. This project's.
use Rattle.std.specs.Prelude.{◌≡◌, ℕ, ◌<◌, ◌^◌, List, length, map, slice_get, slice_index, slice_index_or, Bool, true, false, Option, None, Some}
use Rattle.net_core.specs.declared.net.Net.{Net}
use Rattle.net_sim.specs.Sim.{SimValue, IsNewSim, IsLoadOfSim, IsRowOfSim, IsEdgeOfSim, IfRunning, IfStopped, IfEvaluated, IfNotEvaluated}
use Rattle.net_sim.specs.declared.sim.Phase.{Phase}
use Rattle.net_sim.specs.declared.sim.Phase.TheVariants.{Stopped}
use Rattle.net_lanes.specs.declared.lane.TheConstants.{LANES}

-- a lane: its simulation, and whether it rests
pub record Lane : Type 0 where
  pub sim : SimValue
  pub rests : Bool

-- the netlist, and the lanes in their order, which are numbered from 0
pub record LanesValue : Type 0 where
  pub net : Net
  pub lanes : List Lane

-- ---- inputs

-- for each input, of these widths, its value in each lane, which fits the width
pub record AreInputs (widths : List ℕ) (inputs : List (List ℕ)) : Type 0 where
  pub all : length inputs ≡ length widths
  pub fit : (k lane width : ℕ) (values : List ℕ) → slice_get widths k ≡ Some width → slice_get inputs k ≡ Some values → lane < LANES →
      slice_index values lane < 2 ^ width

-- the values of the inputs in one lane, in the order of the inputs
abbrev pub lane_inputs : ℕ → List (List ℕ) → List ℕ
lane_inputs lane inputs = map (λ values. slice_index values lane) inputs

-- ---- one lane

-- no row was made, no word is loaded, and it does not rest
pub record IsNewLane (net : Net) (lane : Lane) : Type 0 where
  pub sim : IsNewSim net lane.sim
  pub wakes : lane.rests ≡ false

-- a shown memory has one more word, before the first row
pub record IsLoadOfLane (mem at word : ℕ) (old new : Lane) : Type 0 where
  pub sim : IsLoadOfSim old.sim mem at word new.sim
  pub rests : new.rests ≡ old.rests

-- from now on it rests
abbrev pub IsRestOfLane : Lane → Lane → Type 0
IsRestOfLane old new = new ≡ record old { rests = true }

-- the port whose Conflict has ended the run
abbrev pub conflict_of : Phase → Option ℕ
conflict_of (Stopped port) = Some port
conflict_of phase = None

-- what a row makes of a lane. After a Conflict it stays as it is, and the same port is told; where it rests, it stays as it is, and no port is told;
-- else its simulation makes a row from its own inputs
pub record IsRowOfLane (inputs : List ℕ) (conflict : Option ℕ) (old new : Lane) : Type 0 where
  pub rests : new.rests ≡ old.rests
  pub stopped : IfStopped old.sim.phase (λ port. (new ≡ old) × (conflict ≡ Some port))
  pub resting : IfRunning old.sim.phase (old.rests ≡ true → (new ≡ old) × (conflict ≡ None))
  pub running : IfRunning old.sim.phase (old.rests ≡ false → IsRowOfSim old.sim inputs new.sim conflict)

-- what an edge makes of a lane. Where it rests, and where no row was made since the last edge, it stays as it is; else each cell moves on
pub record IsEdgeOfLane (old new : Lane) : Type 0 where
  pub rests : new.rests ≡ old.rests
  pub resting : old.rests ≡ true → new ≡ old
  pub evaluated : IfEvaluated old.sim.phase (old.rests ≡ false → IsEdgeOfSim old.sim new.sim)
  pub others : IfNotEvaluated old.sim.phase (new ≡ old)

-- ---- all lanes

-- as many lanes as go side by side, each new
pub record AreNewLanes (net : Net) (value : LanesValue) : Type 0 where
  pub net_is : value.net ≡ net
  pub count : length value.lanes ≡ LANES
  pub each : (k : ℕ) (lane : Lane) → slice_get value.lanes k ≡ Some lane → IsNewLane net lane

-- each lane changes so, by its number
pub record EachChanges (Changes : ℕ → Lane → Lane → Type 0) (old new : LanesValue) : Type 0 where
  pub net : new.net ≡ old.net
  pub count : length new.lanes ≡ length old.lanes
  pub each : (k : ℕ) (o n : Lane) → slice_get old.lanes k ≡ Some o → slice_get new.lanes k ≡ Some n → Changes k o n

-- one lane changes so, and each other one stays as it is
pub record OneChanges (lane : ℕ) (Changes : Lane → Lane → Type 0) (old new : LanesValue) : Type 0 where
  pub net : new.net ≡ old.net
  pub count : length new.lanes ≡ length old.lanes
  pub changes : (o n : Lane) → slice_get old.lanes lane ≡ Some o → slice_get new.lanes lane ≡ Some n → Changes o n
  pub others : (k : ℕ) → (k ≡ lane → ⊥) → slice_get new.lanes k ≡ slice_get old.lanes k

-- the claim is true of the lane with this number
abbrev pub OfLane : LanesValue → ℕ → (Lane → Type 0) → Type 0
OfLane value k Claim = (lane : Lane) → slice_get value.lanes k ≡ Some lane → Claim lane

-- a row of each lane, and the ports with the Conflicts that are told
abbrev pub AreRowsOfLanes : List (List ℕ) → List (Option ℕ) → LanesValue → LanesValue → Type 0
AreRowsOfLanes inputs conflicts old new = EachChanges (λ k. IsRowOfLane (lane_inputs k inputs) (slice_index_or conflicts k None)) old new

abbrev pub AreEdgesOfLanes : LanesValue → LanesValue → Type 0
AreEdgesOfLanes old new = EachChanges (λ k. IsEdgeOfLane) old new
