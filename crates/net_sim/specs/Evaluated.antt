-- The value of one port in a row, by names and by numbers. This project's.
use Rattle.std.specs.Prelude.{◌≡◌, ℕ, ◌+◌, ◌<◌, ◌≤◌, List, length, slice_get, slice_index, slice_range, Some, Option}
use Rattle.hw_bits.specs.declared.bits.Bits.{Bits}
use Rattle.hw_names.specs.Name.{Text, dotted}
use Rattle.hw_prims.specs.Cell.{CellValue}
use Rattle.hw_prims.specs.Meaning.{output_values, next_state}
use Rattle.hw_prims.specs.Row.{Row, values_at}
use Rattle.hw_prims.specs.State.{State}
use Rattle.hw_prims.specs.Table.{inputs_of, outputs_of, pin_names, pin_widths}
use Rattle.hw_prims.specs.declared.prim.Primitive.{Primitive}
use Rattle.net_core.specs.Circuit.{settled}
use Rattle.net_core.specs.NetRun.{HasPin, IsWritable, IsNetCell, values_for}
use Rattle.net_core.specs.Netlist.{Netlist, SetLine}
use Rattle.net_core.specs.Rules.{ports_of, source_width}
use Rattle.hw_graph.specs.ByName.{IsLeastWith}
use Rattle.net_sim.specs.declared.cells.CellPorts.{CellPorts}
use Rattle.net_sim.specs.Layout.{name_of}
use Rattle.net_sim.specs.declared.plan.Source.{Source}
use Rattle.net_sim.specs.declared.plan.Source.TheVariants.{Slot, Fixed}
use Rattle.net_sim.specs.declared.settle.Settled.{Settled}
use Rattle.net_sim.specs.declared.settle.Settled.TheVariants.{Clash}

-- what a row asks of the value of a port
pub record IsValueOf (n : Netlist) (inputs : Row) (states : Text → Primitive → State) (row : Row) (port : Text) (value : ℕ) : Type 0 where
  pub given : HasPin n.ins port → value ≡ inputs port
  pub driven : IsWritable n port → value ≡ settled (values_for port row n.sets)
  pub computed : (cell : Text) (prim : Primitive) (k : ℕ) (output : Text) → IsNetCell n cell prim → slice_get (pin_names (outputs_of prim)) k ≡ Some output →
      dotted cell output ≡ port → value ≡ slice_index (output_values prim (states cell prim) (values_at row (dotted cell) (pin_names (inputs_of prim)))) k

-- the port has a Conflict in the row
abbrev pub Clashes : Netlist → Row → ℕ → Type 0
Clashes n row port = 2 ≤ length (values_for (name_of n port) row n.sets)

-- a source of this width
abbrev pub HasWidth : List ℕ → ℕ → Source → Type 0
HasWidth widths width (Slot k) = slice_get widths k ≡ Some width
HasWidth widths width (Fixed bits) = bits.width ≡ width

-- the number that a source gives
abbrev pub source_number : List ℕ → Source → ℕ
source_number values (Slot k) = slice_index values k
source_number values (Fixed bits) = bits.value

-- the source of an assignment has this width
abbrev pub HasSourceWidth : Netlist → ℕ → ℕ → Type 0
HasSourceWidth n number width = (a : SetLine) → slice_get n.sets number ≡ Some a → source_width (ports_of n) a.src ≡ width

-- the inputs of a cell, from the values of all ports
abbrev pub cell_inputs : List ℕ → CellPorts → List ℕ
cell_inputs values cell = slice_range values cell.first (cell.first + length (inputs_of cell.prim))

-- a cell after the edge
abbrev pub moved : List ℕ → CellPorts → CellValue → CellValue
moved values cell s = record { prim = s.prim; state = next_state s.prim s.state (cell_inputs values cell) }

-- the first cells have moved on, and the others not yet
pub record AreMoved (cells : List CellPorts) (values : List ℕ) (count : ℕ) (old new : List CellValue) : Type 0 where
  pub all : length new ≡ length old
  pub first : (k : ℕ) (c : CellPorts) (s : CellValue) → k < count → slice_get cells k ≡ Some c → slice_get old k ≡ Some s →
      slice_get new k ≡ Some (moved values c s)
  pub others : (k : ℕ) → count ≤ k → slice_get new k ≡ slice_get old k

-- a source whose slot is one of so many
abbrev pub IsWithin : ℕ → Source → Type 0
IsWithin count (Slot k) = k < count
IsWithin count (Fixed bits) = Unit {0}

-- the value at a slot, or the literal
abbrev pub IsBitsOf : List Bits → Source → Bits → Type 0
IsBitsOf values (Slot k) result = slice_get values k ≡ Some result
IsBitsOf values (Fixed bits) result = result ≡ bits

-- each cell's inputs are ports of its primitive's widths
abbrev pub AreCellInputs : List ℕ → List CellPorts → Type 0
AreCellInputs widths cells =
    (k : ℕ) (c : CellPorts) → slice_get cells k ≡ Some c →
    (c.first + length (inputs_of c.prim) ≤ length widths) × (cell_inputs widths c ≡ pin_widths (inputs_of c.prim))

-- the Conflict that was found stays, or it is the lesser of it and of a port with one
abbrev pub IsLeastConflict : List Text → Settled → Option ℕ → ℕ → Option ℕ → Type 0
IsLeastConflict names Clash found port result = (least : ℕ) × (result ≡ Some least) × IsLeastWith names found port least
IsLeastConflict names settled found port result = result ≡ found
