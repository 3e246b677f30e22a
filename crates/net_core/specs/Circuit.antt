-- Circuits, whatever language they come from: their rows and runs, stated once. Calyx, ASPLOS 2021, with this project's rows.
use Rattle.std.specs.Prelude.{◌≡◌, ◌≢◌, ℕ, ◌+◌, ◌<◌, ◌≤◌, ◌⊎◌, List, [], ◌∷◌, length, Option, Some, None}
use Rattle.std.specs.Cmp.Lexicographic.{slice_cmp}
use Rattle.std.specs.Ordering.{nat_cmp}
use Rattle.std.specs.declared.cmp.Ordering.TheVariants.{Greater}
use Rattle.hw_names.specs.Name.{Text, dotted}
use Rattle.hw_prims.specs.Cell as pins
use Rattle.hw_prims.specs.Meaning.{opening_state, output_values}
use Rattle.hw_prims.specs.Row.{Row, Trace, values_at}
use Rattle.hw_prims.specs.State.{State}
use Rattle.hw_prims.specs.Table.{inputs_of, outputs_of, pin_names}
use Rattle.hw_prims.specs.declared.prim.Primitive.{Primitive}

-- what drives a port: the values of its acting assignments whose guards are true, in row t and from that row's values
abbrev pub Drive : Type 0
Drive = ℕ → Row → List ℕ

-- which full names are inputs, which are driven and by what, and which are cells of a primitive
pub record Circuit : Type 1 where
  pub Input : Text → Type 0
  pub Sink : Text → Drive → Type 0
  pub Cell : Text → Primitive → Type 0

-- the value of the one assignment that drives a port, and 0 where there is none, or a Conflict
abbrev pub settled : List ℕ → ℕ
settled [] = 0
settled (v ∷ []) = v
settled (v ∷ w ∷ vs) = 0

-- the outputs of the cell with this name are its primitive's
abbrev pub IsComputed : Row → Text → Primitive → State → Type 0
IsComputed row cell prim state =
    values_at row (dotted cell) (pin_names (outputs_of prim)) ≡ output_values prim state (values_at row (dotted cell) (pin_names (inputs_of prim)))

-- the state of the cell with this name before row t
abbrev pub state_before : ℕ → Trace → Text → Primitive → State → State
state_before t trace cell prim opening = pins.state_before t trace (dotted cell) prim opening

-- each cell's state before row t, from these words in its memory
abbrev pub states_before : ℕ → Trace → (Text → List ℕ) → Text → Primitive → State
states_before t trace loads cell prim = state_before t trace cell prim (opening_state prim (loads cell))

-- row t, from the inputs and the cells' states
pub record IsRow (c : Circuit) (t : ℕ) (inputs : Row) (states : Text → Primitive → State) (row : Row) : Type 0 where
  pub given : (port : Text) → c.Input port → row port ≡ inputs port
  pub driven : (port : Text) (drive : Drive) → c.Sink port drive → row port ≡ settled (drive t row)
  pub computed : (cell : Text) (prim : Primitive) → c.Cell cell prim → IsComputed row cell prim (states cell prim)

-- a Conflict: two assignments or more drive the port in row t, even with equal values
pub record HasConflict (c : Circuit) (t : ℕ) (row : Row) (port : Text) : Type 0 where
  pub drive : Drive
  pub sink : c.Sink port drive
  pub clash : 2 ≤ length (drive t row)

-- the reported port: the least by bytes that has a Conflict in row t
pub record IsReported (c : Circuit) (t : ℕ) (row : Row) (port : Text) : Type 0 where
  pub has : HasConflict c t row port
  pub least : (other : Text) → HasConflict c t row other → slice_cmp nat_cmp port other ≢ Greater

-- the last row of the run has a Conflict
abbrev pub EndsInConflict : Circuit → ℕ → Trace → Type 0
EndsInConflict c height trace = (t : ℕ) × (t + 1 ≡ height) × (port : Text) × HasConflict c t (trace t) port

-- the run for `asked` rows of inputs: `height` rows, fewer only where the last is the first with a Conflict
pub record IsRun (c : Circuit) (asked : ℕ) (inputs : Trace) (loads : Text → List ℕ) (height : ℕ) (trace : Trace) : Type 0 where
  pub rows : (t : ℕ) → t < height → IsRow c t (inputs t) (states_before t trace loads) (trace t)
  pub goes_on : (t : ℕ) → t + 1 < height → (port : Text) → HasConflict c t (trace t) port → ⊥
  pub ends : (height ≡ asked) ⊎ ((height < asked) × EndsInConflict c height trace)

-- how a run stops: with no Conflict in any row, or in its last row, where this port is reported
abbrev pub Stops : Circuit → ℕ → Trace → Option Text → Type 0
Stops c height trace None = (t : ℕ) (port : Text) → t < height → HasConflict c t (trace t) port → ⊥
Stops c height trace (Some port) = (t : ℕ) × (t + 1 ≡ height) × IsReported c t (trace t) port
