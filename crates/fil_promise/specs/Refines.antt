-- What a netlist keeps of a Filament design: its ports, its cells, and that it carries every legal list of transactions, at every instance. Filament,
-- PLDI 2023; the words are this project's.
use Rattle.std.specs.Prelude.{◌≡◌, ◌⊎◌, ℕ, ◌<◌, ◌≤◌, false, List, [], ◌∷◌, ◌++◌, map, take, codes, slice_get, Some, All, Contains}
use Rattle.hw_names.specs.Name.{Text, Path, dotted, full_name, IsPlainPath}
use Rattle.hw_prims.specs.Row.{Trace}
use Rattle.hw_prims.specs.Table.{Pin, pin}
use Rattle.hw_prims.specs.Timed.{Behaviour, Transaction, AreLegalTransactions, CarriesInputs, CarriesOutputs}
use Rattle.net_core.specs.Circuit.{Circuit, HasConflict, IsRun}
use Rattle.net_core.specs.Graph.{HasNoLoop}
use Rattle.net_core.specs.NetRun.{net_circuit}
use Rattle.net_core.specs.Netlist.{CellLine, Netlist}
use Rattle.net_core.specs.Rules.{IsValid}
use Rattle.fil_ast.specs.Behaviours.{component_behaviour, IsGiven, HasOwnValues}
use Rattle.fil_ast.specs.Primitives.{table_name, is_filament_primitive}
use Rattle.fil_ast.specs.Scope.{Instance, instance_named}
use Rattle.fil_ast.specs.Top.{IsTop}
use Rattle.fil_ast.specs.Tree.{DataPort, Interface, Component, Design}
use Rattle.fil_ast.specs.Wires.{whole_scope}

-- interface ports stand before the data inputs
abbrev pub inputs_of : Component → List Pin
inputs_of c = map (λ (g : Interface). pin g.name g.width) c.interfaces ++ map (λ (p : DataPort). pin p.name p.width) c.ins

abbrev pub outputs_of : Component → List Pin
outputs_of c = map (λ (p : DataPort). pin p.name p.width) c.outs

-- the instance at a path below component n
pub data IsInstanceAt (comps : Design) (i : Instance) : ℕ → Path → Type 0 where
  Own : (n : ℕ) (c : Component) (inst : Text) → slice_get comps n ≡ Some c → instance_named (whole_scope (take n comps) c).instances inst ≡ Some i →
      IsInstanceAt comps i n (inst ∷ [])
  Below : (n m : ℕ) (c d : Component) (inst : Text) (j : Instance) (path : Path) → slice_get comps n ≡ Some c →
      instance_named (whole_scope (take n comps) c).instances inst ≡ Some j → is_filament_primitive j.made ≡ false → m < n → slice_get comps m ≡ Some d →
      d.name ≡ j.made → IsInstanceAt comps i m path → IsInstanceAt comps i n (inst ∷ path)

-- the names of a path, joined by dots
abbrev pub joined : Path → Text
joined [] = []
joined (name ∷ []) = name
joined (name ∷ next ∷ path) = dotted name (joined (next ∷ path))

abbrev pub IsDigit : ℕ → Type 0
IsDigit byte = (48 ≤ byte) × (byte ≤ 57)

-- the names that lowering makes: `f$` and digits
abbrev pub IsGenerated : Text → Type 0
IsGenerated name = (digits : Text) × (name ≡ codes "f$" ++ digits) × All IsDigit digits

-- a register of one bit that lowering adds: one of the names that its own joins by dots is one that lowering makes, and no run loads or prints it
pub record IsMadeByLowering (line : CellLine) : Type 0 where
  pub path : Path
  pub segment : Text
  pub joins : line.name ≡ joined path
  pub plain : IsPlainPath path
  pub among : Contains path segment
  pub generated : IsGenerated segment
  pub prim : line.prim ≡ codes "std_reg"
  pub params : line.params ≡ 1 ∷ []
  pub not_shown : line.shown ≡ false

-- a primitive instance as a cell of the netlist
abbrev pub instance_cell : Path → Text → Instance → CellLine
instance_cell path table i = record { name = joined path; prim = table; params = i.params; shown = false }

abbrev pub IsInstanceCell : Design → ℕ → CellLine → Type 0
IsInstanceCell comps number line =
    (path : Path) × (i : Instance) × (table : Text) × IsInstanceAt comps i number path × (table_name i.made ≡ Some table) × (line ≡ instance_cell path table i)

-- each primitive instance, at each path, is a cell of its dotted name, and each other cell is a register that lowering adds
pub record HasInstanceCells (comps : Design) (number : ℕ) (n : Netlist) : Type 0 where
  pub all : (path : Path) (i : Instance) (table : Text) → IsInstanceAt comps i number path → table_name i.made ≡ Some table →
      Contains n.cells (instance_cell path table i)
  pub only : (line : CellLine) → Contains n.cells line → IsInstanceCell comps number line ⊎ IsMadeByLowering line

-- the rows carry the transactions at the inputs and the outputs of the instance at the path
abbrev pub CarriesAt : Behaviour → Path → ℕ → Trace → List Transaction → Type 0
CarriesAt b path height trace given =
    (r : ℕ) → r < height → CarriesInputs b.sig (full_name path) (trace r) given r × CarriesOutputs b (full_name path) (trace r) given r

-- the inputs of a run carry the transactions in each row that is asked, whatever they are elsewhere
abbrev pub GiveInputs : Behaviour → ℕ → Trace → List Transaction → Type 0
GiveInputs b asked inputs txs = (r : ℕ) → r < asked → CarriesInputs b.sig (full_name []) (inputs r) txs r

-- a run has all rows that were asked and no Conflict, and in it each instance at each path is given a legal list and carries it: the transactions' plain
-- dataflow throughout their intervals
pub record CarriesList (comps : Design) (number : ℕ) (circuit : Circuit) (txs : List Transaction) (asked height : ℕ) (trace : Trace) : Type 0 where
  pub whole : height ≡ asked
  pub clean : (t : ℕ) (port : Text) → t < height → HasConflict circuit t (trace t) port → ⊥
  pub legal : (path : Path) (b : Behaviour) (given : List Transaction) → IsGiven comps b given number txs path → AreLegalTransactions b.sig given
  pub carries : (path : Path) (b : Behaviour) (given : List Transaction) → IsGiven comps b given number txs path → CarriesAt b path height trace given

-- so does each run of the circuit whose inputs carry a legal list of transactions of component `number`
abbrev pub CarriesLists : Design → ℕ → Component → Circuit → Type 0
CarriesLists comps number c circuit =
    (txs : List Transaction) → AreLegalTransactions (component_behaviour (take number comps) c).sig txs →
    All (HasOwnValues (component_behaviour (take number comps) c)) txs →
    (asked : ℕ) (inputs : Trace) (loads : Text → List ℕ) (height : ℕ) (trace : Trace) → IsRun circuit asked inputs loads height trace →
    GiveInputs (component_behaviour (take number comps) c) asked inputs txs → CarriesList comps number circuit txs asked height trace

pub record Refines (comps : Design) (n : Netlist) : Type 0 where
  pub number : ℕ
  pub is_top : IsTop comps number
  pub c : Component
  pub at : slice_get comps number ≡ Some c
  pub valid : IsValid n
  pub no_loop : HasNoLoop n
  pub name : n.name ≡ c.name
  pub ins : n.ins ≡ inputs_of c
  pub outs : n.outs ≡ outputs_of c
  pub cells : HasInstanceCells comps number n
  pub carries : CarriesLists comps number c (net_circuit n)
