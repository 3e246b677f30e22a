-- Chains of one-bit registers: bit 0 is a port, and each further bit is a register that takes the bit before it in every row. This project's.
use Rattle.std.specs.Prelude.{◌≡◌, ℕ, ◌+◌, false, List, [], ◌∷◌, ◌++◌, length, map, codes, None, All, Contains}
use Rattle.hw_names.specs.Name.{Text, IsPlain, AreDistinct}
use Rattle.net_core.specs.declared.net.Src.TheVariants.{Port, Lit}
use Rattle.cal_ast.specs.Tree.{PortName, port_of, CellDef, Assignment, cell_tree, assignment_tree, port_tree}
use Rattle.cal_ast.specs.declared.tree.CalPort.{CalPort}
use Rattle.fil_promise.specs.Refines.{IsGenerated}
use Rattle.fil_fsm.specs.declared.shift.FsmParts.{FsmParts}

-- a register of one bit
abbrev pub register : Text → CellDef
register name = record { name = name; made = codes "std_reg"; params = 1 ∷ []; external = false }

-- what the register shows
abbrev pub bit_of : Text → PortName
bit_of name = port_of name (codes "out")

-- the register takes this bit in every row
abbrev pub takes : PortName → Text → List Assignment
takes bit name =
    record { dst = port_of name (codes "in"); guard = None; src = Port bit } ∷
    record { dst = port_of name (codes "write_en"); guard = None; src = Lit 1 1 } ∷ []

-- the first register takes this bit, each other the one before it
abbrev pub chain_sets : PortName → List Text → List Assignment
chain_sets bit [] = []
chain_sets bit (name ∷ registers) = takes bit name ++ chain_sets (bit_of name) registers

abbrev pub chain_bits : PortName → List Text → List PortName
chain_bits go registers = go ∷ map bit_of registers

-- the parts are a chain of so many bits after this port, whose registers have names that are new to the list
pub record IsShiftRegister (old new : List Text) (go : CalPort) (n : ℕ) (parts : FsmParts) : Type 0 where
  pub registers : List Text
  pub count : length registers + 1 ≡ n
  pub cells : map (cell_tree new) parts.cells.items ≡ map register registers
  pub sets : map (assignment_tree new) parts.sets.items ≡ chain_sets (port_tree new go) registers
  pub bits : map (port_tree new) parts.bits.items ≡ chain_bits (port_tree new go) registers
  pub generated : All (λ name. IsGenerated name × IsPlain name) registers
  pub fresh : All (λ name. ¬ Contains old name) registers
  pub distinct : AreDistinct registers
