-- A netlist as a circuit, and its run. This project's.
use Rattle.std.specs.Prelude.{◌≡◌, ℕ, ◌⊎◌, ◌&&◌, List, [], ◌∷◌, if◌then◌else◌, map, bytes_eq, slice_get, Some, Contains}
use Rattle.hw_names.specs.Name.{Text, dotted}
use Rattle.hw_prims.specs.Row.{Row, Trace}
use Rattle.hw_prims.specs.Table.{Pin, prim_of, inputs_of, pin_names}
use Rattle.hw_prims.specs.declared.prim.Primitive.{Primitive}
use Rattle.net_core.specs.Circuit.{Circuit, Drive, IsRun}
use Rattle.net_core.specs.Guard.{source_value, guard_holds}
use Rattle.net_core.specs.Netlist.{Netlist, CellLine, SetLine}

-- the values of the assignments to a port whose guards are true; all assignments act
abbrev pub values_for : Text → Row → List SetLine → List ℕ
values_for port row [] = []
values_for port row (a ∷ sets) =
    if bytes_eq a.dst port && guard_holds row a.guard then source_value row a.src ∷ values_for port row sets else values_for port row sets

-- the same in every row
abbrev pub net_drive : Netlist → Text → Drive
net_drive net port t row = values_for port row net.sets

-- a port of this list of the netlist's own
abbrev pub HasPin : List Pin → Text → Type 0
HasPin pins port = Contains (map (λ (p : Pin). p.name) pins) port

-- a cell of the netlist, with this name and primitive
abbrev pub IsNetCell : Netlist → Text → Primitive → Type 0
IsNetCell net name prim =
    (k : ℕ) × (cell : CellLine) × (slice_get net.cells k ≡ Some cell) × (cell.name ≡ name) × (prim_of cell.prim cell.params ≡ Some prim)

-- an input of a cell
abbrev pub IsCellInput : Netlist → Text → Type 0
IsCellInput net port =
    (cell : Text) × (prim : Primitive) × IsNetCell net cell prim × (pin : Text) × Contains (pin_names (inputs_of prim)) pin × (dotted cell pin ≡ port)

-- what an assignment may drive: an output, a wire, an input of a cell
abbrev pub IsWritable : Netlist → Text → Type 0
IsWritable net port = HasPin net.outs port ⊎ HasPin net.wires port ⊎ IsCellInput net port

abbrev pub net_circuit : Netlist → Circuit
net_circuit net =
    record {
      Input = HasPin net.ins;
      Sink = λ port drive. IsWritable net port × (drive ≡ net_drive net port);
      Cell = IsNetCell net;
    }

-- the run of a netlist for `asked` rows of inputs, from these words in its memories
abbrev pub NetRun : Netlist → ℕ → Trace → (Text → List ℕ) → ℕ → Trace → Type 0
NetRun net = IsRun (net_circuit net)
