-- A netlist compiled to numbers: each assignment's source, and what gives each port its value. This project's.
use Rattle.std.specs.Prelude.{◌≡◌, ℕ, suc, List, [], ◌∷◌, ◌++◌, length, map, replicate, slice_get, Some}
use Rattle.std.specs.List.{range_with_len}
use Rattle.hw_names.specs.Name.{Text}
use Rattle.hw_prims.specs.Cell.{CellValue}
use Rattle.hw_prims.specs.Meaning.{opening_state}
use Rattle.hw_prims.specs.Table.{inputs_of, outputs_of}
use Rattle.hw_prims.specs.declared.prim.Primitive.{Primitive}
use Rattle.net_core.specs.Netlist.{Netlist, SetLine}
use Rattle.net_core.specs.declared.net.Src.{Src}
use Rattle.net_core.specs.declared.net.Src.TheVariants.{Port, Lit}
use Rattle.net_sim.specs.Layout.{port_names}
use Rattle.net_sim.specs.declared.cells.CellPorts.{CellPorts}
use Rattle.net_sim.specs.declared.plan.Giver.{Giver}
use Rattle.net_sim.specs.declared.plan.Giver.TheVariants.{Input, Output, Driven}
use Rattle.net_sim.specs.declared.plan.Source.{Source}
use Rattle.net_sim.specs.declared.plan.Source.TheVariants.{Slot, Fixed}

-- the slot of the port that is read, or the literal
abbrev pub IsSource : List Text → Src Text → Source → Type 0
IsSource names (Port p) (Slot k) = slice_get names k ≡ Some p
IsSource names (Port p) (Fixed bits) = ⊥
IsSource names (Lit width value) (Slot k) = ⊥
IsSource names (Lit width value) (Fixed bits) = (bits.value ≡ value) × (bits.width ≡ width)

-- one source for each assignment
pub record AreSources (n : Netlist) (sources : List Source) : Type 0 where
  pub all : length sources ≡ length n.sets
  pub each : (k : ℕ) (a : SetLine) (s : Source) → slice_get n.sets k ≡ Some a → slice_get sources k ≡ Some s → IsSource (port_names n) a.src s

-- a cell's inputs are driven, and its outputs are what it computes
abbrev pub givers_of_cell : ℕ → Primitive → List Giver
givers_of_cell k prim = replicate (length (inputs_of prim)) Driven ++ map (Output k) (range_with_len 0 (length (outputs_of prim)))

-- those of the cells, counted from k
abbrev pub givers_from : ℕ → List CellPorts → List Giver
givers_from k [] = []
givers_from k (c ∷ cells) = givers_of_cell k c.prim ++ givers_from (suc k) cells

-- what gives each port its value, in the order of the ports
abbrev pub givers_of : Netlist → List CellPorts → List Giver
givers_of n cells =
    replicate (length n.ins) Input ++ replicate (length n.outs) Driven ++ replicate (length n.wires) Driven ++ givers_from 0 cells

-- each cell in its opening state, with no words loaded
pub record AreOpening (cells : List CellPorts) (states : List CellValue) : Type 0 where
  pub prims_are : map (λ (s : CellValue). s.prim) states ≡ map (λ (c : CellPorts). c.prim) cells
  pub states_are : map (λ (s : CellValue). s.state) states ≡ map (λ (c : CellPorts). opening_state c.prim []) cells
