-- What a simulator holds of a run, and what one row and one edge make of it. This project's.
use Rattle.std.specs.Prelude.{◌≡◌, ℕ, ◌<◌, List, [], ◌∷◌, length, map, slice_index, bytes_eq, if◌then◌else◌, Option, Some, None, Result, Ok, Err}
use Rattle.hw_names.specs.Name.{Text, dotted}
use Rattle.hw_prims.specs.Meaning.{next_state, opening_state}
use Rattle.hw_prims.specs.Memory.{state_with_word, word_count}
use Rattle.hw_prims.specs.Row.{Row, values_at}
use Rattle.hw_prims.specs.State.{State, Stateless, memory_words}
use Rattle.hw_prims.specs.Table.{Pin, inputs_of, pin_names}
use Rattle.hw_prims.specs.declared.prim.Primitive.{Primitive}
use Rattle.net_core.specs.Circuit.{IsRow, HasConflict, IsReported}
use Rattle.net_core.specs.NetRun.{net_circuit, IsNetCell}
use Rattle.net_core.specs.Netlist.{Netlist, CellLine, netlist_of}
use Rattle.net_core.specs.declared.net.Net.{Net}
use Rattle.net_sim.specs.Layout.{port_names, name_of}
use Rattle.net_sim.specs.Shown.{IsShown}
use Rattle.net_sim.specs.Slots.{row_of}
use Rattle.net_sim.specs.declared.sim.Conflict.{Conflict}
use Rattle.net_sim.specs.declared.sim.Phase.{Phase}
use Rattle.net_sim.specs.declared.sim.Phase.TheVariants.{Fresh, Evaluated, Stepped, Stopped}

-- the netlist, the cells' states, the ports' values in the last row, and how far the simulation has come
pub record SimValue : Type 0 where
  pub net : Net
  pub states : List State
  pub values : List ℕ
  pub phase : Phase

-- the state along the first name that is the cell's
abbrev pub state_along : List Text → List State → Text → State
state_along [] states cell = Stateless
state_along (name ∷ names) [] cell = Stateless
state_along (name ∷ names) (s ∷ states) cell = if bytes_eq name cell then s else state_along names states cell

abbrev pub cell_names : Netlist → List Text
cell_names n = map (λ (c : CellLine). c.name) n.cells

-- the cells' states, by their names
abbrev pub states_of : Netlist → List State → Text → Primitive → State
states_of n states cell prim = state_along (cell_names n) states cell

-- the values of the netlist's inputs, by their names
abbrev pub input_row : Netlist → List ℕ → Row
input_row n inputs = row_of (map (λ (p : Pin). p.name) n.ins) inputs

-- the values of the ports, by their names
abbrev pub port_row : Netlist → List ℕ → Row
port_row n values = row_of (port_names n) values

-- no port has a Conflict, or this one is reported
abbrev pub AreConflicts : Netlist → ℕ → Row → Option ℕ → Type 0
AreConflicts n t row None = (port : Text) → HasConflict (net_circuit n) t row port → ⊥
AreConflicts n t row (Some port) = (port < length (port_names n)) × IsReported (net_circuit n) t row (name_of n port)

-- the values make a row from these inputs and states, whatever its number, and its Conflict is this one
pub record IsEvaluated (n : Netlist) (inputs : List ℕ) (states : List State) (values : List ℕ) (conflict : Option ℕ) : Type 0 where
  pub row : (t : ℕ) → IsRow (net_circuit n) t (input_row n inputs) (states_of n states) (port_row n values)
  pub conflicts : (t : ℕ) → AreConflicts n t (port_row n values) conflict

-- each cell has moved on from its inputs in the row
abbrev pub AreStepped : Netlist → List State → List ℕ → List State → Type 0
AreStepped n old values new =
    (cell : Text) (prim : Primitive) → IsNetCell n cell prim →
    states_of n new cell prim ≡ next_state prim (states_of n old cell prim) (values_at (port_row n values) (dotted cell) (pin_names (inputs_of prim)))

abbrev pub conflict_in : Result (Unit {0}) Conflict → Option ℕ
conflict_in (Ok done) = None
conflict_in (Err conflict) = Some conflict.port

abbrev pub phase_after : Option ℕ → Phase
phase_after None = Evaluated
phase_after (Some port) = Stopped port

-- what a row makes where no Conflict has ended the run
pub record IsRowOfSim (old : SimValue) (inputs : List ℕ) (new : SimValue) (conflict : Option ℕ) : Type 0 where
  pub net : new.net ≡ old.net
  pub states : new.states ≡ old.states
  pub phase : new.phase ≡ phase_after conflict
  pub values : length new.values ≡ length (port_names (netlist_of old.net))
  pub evaluated : IsEvaluated (netlist_of old.net) inputs old.states new.values conflict

-- what an edge makes after a row without a Conflict
pub record IsEdgeOfSim (old new : SimValue) : Type 0 where
  pub net : new.net ≡ old.net
  pub values : new.values ≡ old.values
  pub phase : new.phase ≡ Stepped
  pub states : AreStepped (netlist_of old.net) old.states old.values new.states

-- no words
abbrev pub no_loads : Text → List ℕ
no_loads cell = []

-- before the first row: each cell is in its opening state, with these words loaded into the shown memories
pub record IsLoadedSim (net : Net) (loads : Text → List ℕ) (sim : SimValue) : Type 0 where
  pub net_is : sim.net ≡ net
  pub phase : sim.phase ≡ Fresh
  pub values : length sim.values ≡ length (port_names (netlist_of net))
  pub states : (cell : Text) (prim : Primitive) → IsNetCell (netlist_of net) cell prim →
      states_of (netlist_of net) sim.states cell prim ≡ opening_state prim (loads cell)
  pub hidden : (cell : Text) → ((mem : ℕ) (prim : Primitive) → IsShown (netlist_of net) mem cell prim → ⊥) → loads cell ≡ []

-- what `new` makes: no word is loaded
abbrev pub IsNewSim : Net → SimValue → Type 0
IsNewSim net sim = IsLoadedSim net no_loads sim

-- what a load makes: a shown memory has one more word
pub record IsLoadOfSim (old : SimValue) (mem at word : ℕ) (new : SimValue) : Type 0 where
  pub net : new.net ≡ old.net
  pub values : new.values ≡ old.values
  pub phase : new.phase ≡ old.phase
  pub loaded : (cell : Text) (prim : Primitive) → IsShown (netlist_of old.net) mem cell prim →
      states_of (netlist_of old.net) new.states cell prim ≡ state_with_word (states_of (netlist_of old.net) old.states cell prim) at word
  pub others : (cell : Text) (prim : Primitive) → IsNetCell (netlist_of old.net) cell prim → (IsShown (netlist_of old.net) mem cell prim → ⊥) →
      states_of (netlist_of old.net) new.states cell prim ≡ states_of (netlist_of old.net) old.states cell prim

-- the word of a shown memory
abbrev pub IsWordOfSim : SimValue → (mem at word : ℕ) → Type 0
IsWordOfSim sim mem at word =
    (cell : Text) (prim : Primitive) → IsShown (netlist_of sim.net) mem cell prim →
    word ≡ slice_index (memory_words (states_of (netlist_of sim.net) sim.states cell prim)) at

-- how many words a shown memory has
abbrev pub IsWordCountOfSim : SimValue → (mem count : ℕ) → Type 0
IsWordCountOfSim sim mem count =
    (cell : Text) (prim : Primitive) → IsShown (netlist_of sim.net) mem cell prim →
    (count ≡ word_count prim) × (count ≡ length (memory_words (states_of (netlist_of sim.net) sim.states cell prim)))

-- by phases: where no Conflict has ended the run, and where one has
abbrev pub IfRunning : Phase → Type 0 → Type 0
IfRunning (Stopped port) claim = Unit {0}
IfRunning phase claim = claim

abbrev pub IfStopped : Phase → (ℕ → Type 0) → Type 0
IfStopped (Stopped port) claim = claim port
IfStopped phase claim = Unit {0}

abbrev pub IfEvaluated : Phase → Type 0 → Type 0
IfEvaluated Evaluated claim = claim
IfEvaluated phase claim = Unit {0}

abbrev pub IfNotEvaluated : Phase → Type 0 → Type 0
IfNotEvaluated Evaluated claim = Unit {0}
IfNotEvaluated phase claim = claim
