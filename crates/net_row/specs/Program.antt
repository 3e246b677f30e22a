-- A netlist compiled to steps over slots: where each port's value is, where its Conflicts are told, and what is kept after a row. This project's.
use Rattle.std.specs.Prelude.{◌≡◌, ◌↔◌, ℕ, ◌+◌, ◌<◌, ◌^◌, List, length, map, All, Some, slice_get, slice_index}
use Rattle.net_core.specs.Netlist.{Netlist}
use Rattle.net_sim.specs.Evaluated.{IsValueOf, Clashes}
use Rattle.net_sim.specs.Layout.{port_names, port_widths, name_of}
use Rattle.net_sim.specs.Sim.{input_row, port_row, states_of}
use Rattle.net_sim.specs.declared.cells.CellPorts.{CellPorts}
use Rattle.net_steps.specs.Conflicts.{Clashes as ClashesIn}
use Rattle.net_steps.specs.Runs.{all_operations}
use Rattle.net_steps.specs.StepsValue.{StepsValue}
use Rattle.net_steps.specs.declared.clashes.Clash.{Clash}
use Rattle.net_steps.specs.declared.operation.Operation.{Operation}
use Rattle.net_row.specs.Kinds.{kinds_of, kept_in}
use Rattle.net_row.specs.Outputs.{IsNextState}
use Rattle.net_row.specs.Places.{ArePlaces}
use Rattle.net_row.specs.Rows.{Frame, SlotRow, IsRowIn, states_in}
use Rattle.net_row.specs.declared.kinds.Kind.{Kind}
use Rattle.net_row.specs.declared.program.Program.{Program}

abbrev pub frame : Netlist → List CellPorts → Frame
frame n cells = record { net = n; cells = cells }

-- its steps, one run after another
abbrev pub steps_in : Program → List Operation
steps_in program = all_operations program.runs.items

-- the first step has the slot after what is kept and the inputs; what is assumed holds in each row
abbrev pub steps_of : Netlist → List CellPorts → Program → StepsValue
steps_of n cells program =
    record { base = kept_in cells + length n.ins; items = steps_in program; choices = program.choices.items; assumed = program.assumed.items }

-- the values of the ports in a row
abbrev pub values_in : Program → SlotRow → List ℕ
values_in program row = map (slice_index row.slots) program.ports.items

-- what the program tells of a row
pub record TellsRow (n : Netlist) (cells : List CellPorts) (program : Program) (row : SlotRow) : Type 0 where
  pub fit : (port slot width : ℕ) → slice_get program.ports.items port ≡ Some slot → slice_get (port_widths n) port ≡ Some width →
      slice_index row.slots slot < 2 ^ width
  pub values : (port : ℕ) → port < length (port_names n) →
      IsValueOf n (input_row n row.inputs) (states_of n (states_in (frame n cells) row)) (port_row n (values_in program row)) (name_of n port)
      (slice_index (values_in program row) port)
  pub told : (port : ℕ) → port < length (port_names n) →
      Clashes n (port_row n (values_in program row)) port ↔ ClashesIn program.clashes.items row.slots port
  pub next : (k : ℕ) (cell : CellPorts) (kind : Kind) → slice_get cells k ≡ Some cell → slice_get (kinds_of cells) k ≡ Some kind →
      IsNextState program.next.items cell kind row (values_in program row)

-- the program of a netlist with these cells
pub record IsProgram (n : Netlist) (cells : List CellPorts) (program : Program) : Type 0 where
  pub ports : length program.ports.items ≡ length (port_names n)
  pub places : ArePlaces cells program.ports.items program.places.items
  pub next : length program.next.items ≡ kept_in cells
  pub clashes : All (λ (clash : Clash). clash.port < length (port_names n)) program.clashes.items
  pub tells : (row : SlotRow) → IsRowIn (frame n cells) (steps_of n cells program) row → TellsRow n cells program row
