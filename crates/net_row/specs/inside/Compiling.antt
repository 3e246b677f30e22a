-- What each part of the compilation adds to what is compiled so far. This project's.
use Rattle.std.specs.Prelude.{◌≡◌, ℕ, List, [], ◌∷◌, ◌++◌, All, Some, slice_get}
use Rattle.net_core.specs.Netlist.{Netlist, netlist_of}
use Rattle.net_sim.specs.Layout.{port_widths}
use Rattle.net_sim.specs.inside.Settled.{value_if_acting}
use Rattle.net_sim.specs.Sim.{port_row}
use Rattle.net_steps.specs.Drivers.{acting}
use Rattle.net_steps.specs.Steps.{Extends}
use Rattle.net_steps.specs.declared.clashes.Clash.{Clash}
use Rattle.net_steps.specs.declared.drivers.Driver.{Driver}
use Rattle.net_row.specs.inside.Ports.{AreActing, IsMadeOf, IsPortValue, IsTold, frame_of}
use Rattle.net_row.specs.Rows.{Frame, FitsIn, InEachRow, SlotRow}
use Rattle.net_row.specs.declared.compile.Made.{Made}
use Rattle.net_row.specs.declared.compile.Numbered.{Numbered}

-- the netlist that is compiled
abbrev pub net_of : Numbered → Netlist
net_of numbered = netlist_of numbered.net.now

abbrev pub frame_in : Numbered → Frame
frame_in numbered = frame_of (net_of numbered) numbered

-- steps and truths of tests were added, and nothing else
pub record AddsTruths (numbered : Numbered) (old new : Made) : Type 0 where
  pub extends : Extends old.steps new.steps
  pub ports : new.ports ≡ old.ports
  pub clashes : new.clashes ≡ old.clashes
  pub made : IsMadeOf (net_of numbered) numbered new

-- the driver gives what the assignment with this number gives
abbrev pub IsAssignment : Netlist → ℕ → Driver → SlotRow → List ℕ → Type 0
IsAssignment n number driver row values = acting row.slots (driver ∷ []) ≡ value_if_acting (port_row n values) (slice_get n.sets number)

-- steps and truths were added by which the driver is the assignment with this number
pub record AddsDriver (numbered : Numbered) (old new : Made) (number : ℕ) (driver : Driver) : Type 0 where
  pub added : AddsTruths numbered old new
  pub is : InEachRow (frame_in numbered) new.steps new.ports.slots.items (IsAssignment (net_of numbered) number driver)

-- steps and truths were added by which the drivers are the assignments to the port
pub record AddsDrivers (numbered : Numbered) (old new : Made) (port : ℕ) (drivers : List Driver) : Type 0 where
  pub added : AddsTruths numbered old new
  pub are : InEachRow (frame_in numbered) new.steps new.ports.slots.items (AreActing (net_of numbered) port drivers)

-- what was compiled stands, and in the slot is the port's value, which fits its width; clashes were added that tell its Conflicts
pub record AddsPortSlot (numbered : Numbered) (old new : Made) (port slot : ℕ) : Type 0 where
  pub ports : new.ports ≡ old.ports
  pub made : IsMadeOf (net_of numbered) numbered (record new { clashes = old.clashes })
  pub fits : (width : ℕ) → slice_get (port_widths (net_of numbered)) port ≡ Some width → FitsIn (frame_in numbered) new.steps width slot
  pub value : InEachRow (frame_in numbered) new.steps new.ports.slots.items (IsPortValue (frame_in numbered) port slot)
  pub added : List Clash
  pub clashes : new.clashes.items ≡ old.clashes.items ++ added
  pub of_port : All (λ (clash : Clash). clash.port ≡ port) added
  pub told : InEachRow (frame_in numbered) new.steps new.ports.slots.items (IsTold (net_of numbered) added port)
