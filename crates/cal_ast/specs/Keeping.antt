-- What a step of lowering keeps of a design: its shape, and its runs. This project's.
use Rattle.std.specs.Prelude.{◌≡◌, ◌⊎◌, ℕ, ◌<◌, ◌≤◌, true, false, ◌&&◌, Bool, List, [], ◌∷◌, ◌++◌, Option, Some, All, Contains}
use Rattle.std.specs.List.{AllZip}
use Rattle.hw_names.specs.Name.{Text, Path, full_name, IsPlainPath}
use Rattle.hw_prims.specs.Meaning.{is_stateless}
use Rattle.hw_prims.specs.Row.{Trace}
use Rattle.hw_prims.specs.Table.{is_memory, is_primitive}
use Rattle.hw_prims.specs.declared.prim.Primitive.{Primitive}
use Rattle.net_core.specs.Circuit.{states_before}
use Rattle.net_core.specs.Graph.{HasNoLoop}
use Rattle.net_core.specs.NetRun.{net_circuit}
use Rattle.net_core.specs.Netlist.{CellLine, Netlist}
use Rattle.net_core.specs.Rules.{IsValid}
use Rattle.cal_ast.specs.CalRun.{IsStoppedRun}
use Rattle.cal_ast.specs.Instances.{component_at, IsPrimitiveCell}
use Rattle.cal_ast.specs.Naming.{IsReserved}
use Rattle.cal_ast.specs.Plain.{HasPlainTree}
use Rattle.cal_ast.specs.Ports.{inputs_in, outputs_in, primitive_of}
use Rattle.cal_ast.specs.Rules.{CalRules}
use Rattle.cal_ast.specs.Schedule.{Run, IsPortOf}
use Rattle.cal_ast.specs.Tree.{CellDef, Component, Design}

-- ---- shape

-- a cell that lowering adds: its name is one of lowering's, and it is no memory
pub record IsAddedCell (cell : CellDef) : Type 0 where
  pub named : IsReserved cell.name
  pub no_memory : is_memory cell.made ≡ false

-- the answer is the component with its implied ports written, and with further cells after its own, which keep their marks
pub record KeepsComponentShape (source answer : Component) : Type 0 where
  pub name : answer.name ≡ source.name
  pub ins : answer.ins ≡ inputs_in source
  pub outs : answer.outs ≡ outputs_in source
  pub added : List CellDef
  pub cells : answer.cells ≡ source.cells ++ added
  pub are_added : All IsAddedCell added

-- the same components, in their order
abbrev pub KeepsShape : Design → Design → Type 0
KeepsShape source answer = AllZip KeepsComponentShape source answer

-- the answer has the name, the ports and the cells of the source, and no others
pub record KeepsCells (source answer : Component) : Type 0 where
  pub name : answer.name ≡ source.name
  pub ins : answer.ins ≡ source.ins
  pub outs : answer.outs ≡ source.outs
  pub cells : answer.cells ≡ source.cells

-- a cell of a primitive without a state
abbrev pub IsStatelessCell : CellDef → Type 0
IsStatelessCell cell = (prim : Primitive) × (primitive_of cell ≡ Some prim) × (is_stateless prim ≡ true)

-- the answer is the component with its shape kept, and what it adds has no state
pub record AddsNoStates (source answer : Component) : Type 0 where
  pub shape : KeepsComponentShape source answer
  pub stateless : All IsStatelessCell shape.added

abbrev pub KeepsStates : Design → Design → Type 0
KeepsStates source answer = AllZip AddsNoStates source answer

-- ---- runs

-- runs of a design or of a netlist: rows asked for, inputs, words of memories, height, rows and stop
abbrev pub Runs : Type 1
Runs = ℕ → Trace → (Text → List ℕ) → ℕ → Trace → Option Text → Type 0

-- each run of the answer is one of the source
abbrev pub KeepsRuns : Runs → Runs → Type 0
KeepsRuns answer source =
    (asked : ℕ) (inputs : Trace) (loads : Text → List ℕ) (height : ℕ) (trace : Trace) (stop : Option Text) →
    answer asked inputs loads height trace stop → source asked inputs loads height trace stop

-- how a run ends: its height, its rows and its stop
pub record Outcome : Type 0 where
  pub height : ℕ
  pub trace : Trace
  pub stop : Option Text

-- outcomes are one to the design: the height, the stop, each port in each row, and the state of each cell before each row and after the last
pub record AreOne (design : Design) (top : Component) (loads : Text → List ℕ) (a b : Outcome) : Type 0 where
  pub heights : a.height ≡ b.height
  pub stops : a.stop ≡ b.stop
  pub ports : (t : ℕ) (port : Text) → t < a.height → IsPortOf design top port → a.trace t port ≡ b.trace t port
  pub states : (t : ℕ) (cell : Text) (prim : Primitive) → t ≤ a.height → IsPrimitiveCell design top cell prim →
      states_before t a.trace loads cell prim ≡ states_before t b.trace loads cell prim

-- the runs have this outcome
abbrev pub EndsAs : Runs → ℕ → Trace → (Text → List ℕ) → Outcome → Type 0
EndsAs runs asked inputs loads a = runs asked inputs loads a.height a.trace a.stop

-- runs of the same inputs and words have outcomes that are one to the design
abbrev pub Agree : Design → Component → Runs → Runs → Type 0
Agree design top one other =
    (asked : ℕ) (inputs : Trace) (loads : Text → List ℕ) (a b : Outcome) → EndsAs one asked inputs loads a → EndsAs other asked inputs loads b →
    AreOne design top loads a b

-- by C1 to C12 and plain names a design has one run, as far as its ports and cells show it
abbrev pub RunsAreUnique : Type 0
RunsAreUnique =
    (design : Design) (top : Component) → HasPlainTree design → CalRules design → Contains design top → Agree design top (Run design top) (Run design top)

-- ---- netlists

-- the path of the top itself
abbrev pub is_top : Path → Bool
is_top [] = true
is_top (cell ∷ path) = false

-- a primitive's cell at a path, by its full name; what is shown are the observable memories of the top
abbrev pub flat_cell : Path → CellDef → CellLine
flat_cell path cell =
    record { name = full_name path cell.name; prim = cell.made; params = cell.params; shown = is_top path && cell.external && is_memory cell.made }

-- the line is a primitive's cell of some instance
pub record IsSourceCell (design : Design) (top : Component) (line : CellLine) : Type 0 where
  pub path : Path
  pub c : Component
  pub at : component_at design top path ≡ Some c
  pub cell : CellDef
  pub has : Contains c.cells cell
  pub primitive : is_primitive cell.made ≡ true
  pub is : line ≡ flat_cell path cell

-- the line is no shown memory, and one of the names that its own joins by dots is one of lowering's
pub record IsLoweringCell (line : CellLine) : Type 0 where
  pub path : Path
  pub name : Text
  pub named : line.name ≡ full_name path name
  pub plain : IsPlainPath (path ++ name ∷ [])
  pub segment : Text
  pub among : Contains (path ++ name ∷ []) segment
  pub reserved : IsReserved segment
  pub not_shown : line.shown ≡ false

-- each primitive's cell of each instance is a cell of the netlist, and each other cell is one of lowering's
pub record HasSourceCells (design : Design) (top : Component) (n : Netlist) : Type 0 where
  pub all : (line : CellLine) → IsSourceCell design top line → Contains n.cells line
  pub only : (line : CellLine) → Contains n.cells line → IsSourceCell design top line ⊎ IsLoweringCell line

-- the runs of a netlist, with their stops
abbrev pub NetRuns : Netlist → Runs
NetRuns n = IsStoppedRun (net_circuit n)

-- the netlist keeps N1 to N6, and shows what the design below its top does
pub record Refines (design : Design) (top : Component) (n : Netlist) : Type 0 where
  pub valid : IsValid n
  pub no_loop : HasNoLoop n
  pub name : n.name ≡ top.name
  pub ins : n.ins ≡ inputs_in top
  pub outs : n.outs ≡ outputs_in top
  pub cells : HasSourceCells design top n
  pub runs : KeepsRuns (NetRuns n) (Run design top)
  pub agree : Agree design top (NetRuns n) (Run design top)
