-- What a chain of registers shows in a run: each bit is the first as it was so many rows before. This project's.
use Rattle.std.specs.Prelude.{◌≡◌, ℕ, ◌+◌, ◌<◌, Bool, false, List, ◌++◌, map, slice_get, filter, Some, All, Contains}
use Rattle.hw_names.specs.Name.{Text, Path, IsPlain, AreDistinct}
use Rattle.hw_prims.specs.Row.{Trace}
use Rattle.hw_prims.specs.declared.prim.Primitive.TheVariants.{StdReg}
use Rattle.cal_ast.specs.CalRun.{BareRun}
use Rattle.cal_ast.specs.Instances.{component_at, port_name}
use Rattle.cal_ast.specs.Laws.{is_cell}
use Rattle.cal_ast.specs.Naming.{cell_names}
use Rattle.cal_ast.specs.Plain.{IsPlainPort}
use Rattle.cal_ast.specs.Ports.{primitive_in}
use Rattle.cal_ast.specs.Tree.{PortName, CellDef, Assignment, Component, Design, cell_tree, assignment_tree, port_tree}
use Rattle.cal_ast.specs.declared.tree.CalPort.{CalPort}
use Rattle.fil_fsm.specs.Chain.{chain_sets, chain_bits, IsShiftRegister}
use Rattle.fil_fsm.specs.declared.shift.FsmParts.{FsmParts}

-- the port is as the source was i rows before, and 0 where there was no such row
pub record IsDelayed (trace : Trace) (height : ℕ) (source : Text) (i : ℕ) (port : Text) : Type 0 where
  pub opens : (r : ℕ) → r < height → r < i → trace r port ≡ 0
  pub follows : (r : ℕ) → r + i < height → trace (r + i) port ≡ trace r source

-- the assignment drives a port of the cell
abbrev pub drives_cell : Text → Assignment → Bool
drives_cell cell a = is_cell a.dst.cell (Some cell)

-- the component has these registers as cells, and of its assignments those of the chain alone drive them
pub record HasChain (c : Component) (go : PortName) (registers : List Text) : Type 0 where
  pub made : All (λ name. primitive_in c name ≡ Some (StdReg 1)) registers
  pub driven : All (λ name. filter (drives_cell name) c.sets ≡ filter (drives_cell name) (chain_sets go registers)) registers
  pub distinct : AreDistinct registers

-- in each run, and in each instance, each bit of a chain is delayed by its number of rows
abbrev pub ChainsDelay : Type 0
ChainsDelay =
    (design : Design) (top : Component) (asked : ℕ) (inputs : Trace) (loads : Text → List ℕ) (height : ℕ) (trace : Trace) →
    BareRun design top asked inputs loads height trace → (path : Path) (c : Component) → component_at design top path ≡ Some c →
    (go : PortName) (registers : List Text) → HasChain c go registers → All IsPlain registers → All (λ (a : Assignment). IsPlainPort a.dst) c.sets →
    (i : ℕ) (bit : PortName) → slice_get (chain_bits go registers) i ≡ Some bit → IsDelayed trace height (port_name path go) i (port_name path bit)

-- the component has these cells and assignments among its own; no other cell has the name of one of these cells, and no other assignment drives one
pub record HasParts (c : Component) (parts : List CellDef) (sets : List Assignment) : Type 0 where
  pub cells_before : List CellDef
  pub cells_after : List CellDef
  pub cells : c.cells ≡ cells_before ++ parts ++ cells_after
  pub sets_before : List Assignment
  pub sets_after : List Assignment
  pub assigned : c.sets ≡ sets_before ++ sets ++ sets_after
  pub other_cells : All (λ (p : CellDef). ¬ Contains (cell_names (cells_before ++ cells_after)) p.name) parts
  pub other_sets : All (λ (p : CellDef). All (λ (a : Assignment). drives_cell p.name a ≡ false) (sets_before ++ sets_after)) parts

-- a component that has the parts of a shift register has its chain
abbrev pub PartsMakeChains : Type 0
PartsMakeChains =
    (old new : List Text) (go : CalPort) (n : ℕ) (parts : FsmParts) (shift : IsShiftRegister old new go n parts) (c : Component) →
    HasParts c (map (cell_tree new) parts.cells.items) (map (assignment_tree new) parts.sets.items) → HasChain c (port_tree new go) shift.registers
