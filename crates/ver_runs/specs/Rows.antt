-- What a cycle of the module of a netlist shows at each port: an input what it is given, a port that assignments may drive what the first of them gives whose
-- guard is true, and an output of a cell what its primitive computes. This project's.
use Rattle.std.specs.Prelude.{◌≡◌, ℕ, ◌^◌, ◌<◌, List, [], ◌∷◌, Contains}
use Rattle.hw_names.specs.Name.{Text}
use Rattle.hw_prims.specs.Row.{Row}
use Rattle.hw_prims.specs.State.{State}
use Rattle.hw_prims.specs.declared.prim.Primitive.{Primitive}
use Rattle.net_core.specs.Circuit.{HasConflict, IsComputed, IsRow}
use Rattle.net_core.specs.Graph.{HasNoLoop}
use Rattle.net_core.specs.NetRun.{HasPin, IsNetCell, IsWritable, net_circuit, values_for}
use Rattle.net_core.specs.Netlist.{Netlist}
use Rattle.net_core.specs.Rules.{PortLine, IsValid, ports_of}
use Rattle.net_text.specs.Names.{HasText}
use Rattle.ver_lang.specs.NetModule.{module_of}
use Rattle.ver_lang.specs.Run.{IsCycle, widths_of}
use Rattle.ver_lang.specs.Value.{Cycle}

-- the first of the values, 0 where there is none; also in a Conflict
abbrev pub first_of : List ℕ → ℕ
first_of [] = 0
first_of (v ∷ vs) = v

-- each port is declared with its width
abbrev pub PortsAreDeclared : Type 0
PortsAreDeclared = (n : Netlist) → IsValid n → HasText n → (p : PortLine) → Contains (ports_of n) p → widths_of (module_of n) p.name ≡ p.width

-- each port has a value of its width
abbrev pub PortsFit : Netlist → Row → Type 0
PortsFit n row = (p : PortLine) → Contains (ports_of n) p → row p.name < 2 ^ p.width

-- in a cycle of the module each port that may be driven has the value of the first assignment whose guard is true
abbrev pub PortsAreDriven : Type 0
PortsAreDriven =
    (n : Netlist) → IsValid n → HasText n → (inputs : Row) (now : Cycle) → IsCycle (module_of n) inputs now → PortsFit n now.row →
    (port : Text) → IsWritable n port → now.row port ≡ first_of (values_for port now.row n.sets)

-- row t as a module shows it, from the inputs and the cells' states: of the assignments to a port whose guards are true the first decides
pub record IsFirstRow (n : Netlist) (inputs : Row) (states : Text → Primitive → State) (row : Row) : Type 0 where
  pub given : (port : Text) → HasPin n.ins port → row port ≡ inputs port
  pub driven : (port : Text) → IsWritable n port → row port ≡ first_of (values_for port row n.sets)
  pub computed : (cell : Text) (prim : Primitive) → IsNetCell n cell prim → IsComputed row cell prim (states cell prim)

-- where the netlist has no loop, such a row is the row of the netlist, port by port, as long as that has no Conflict
abbrev pub FirstRowsAreRows : Type 0
FirstRowsAreRows =
    (n : Netlist) → IsValid n → HasNoLoop n → (t : ℕ) (inputs : Row) (states : Text → Primitive → State) (first row : Row) → IsFirstRow n inputs states first →
    IsRow (net_circuit n) t inputs states row → ((port : Text) → HasConflict (net_circuit n) t row port → ⊥) → (p : PortLine) → Contains (ports_of n) p →
    first p.name ≡ row p.name
