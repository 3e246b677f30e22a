-- Laws of runs of designs. This project's.
use Rattle.std.specs.Prelude.{◌≡◌, ℕ, ◌&&◌, List, [], ◌∷◌, if◌then◌else◌, bytes_eq, Bool, true, false, Option, Some, None, All, Contains}
use Rattle.hw_names.specs.Name.{Text, Path, port_at}
use Rattle.hw_prims.specs.Row.{Row}
use Rattle.net_core.specs.Guard.{guard_holds, source_value}
use Rattle.cal_ast.specs.CalRun.{look, values_for}
use Rattle.cal_ast.specs.FlatWires.{FlatReaches}
use Rattle.cal_ast.specs.Naming.{GroupNaming, IsKnownPort}
use Rattle.cal_ast.specs.Plain.{IsPlainPort, HasPlainTree}
use Rattle.cal_ast.specs.Rules.{KeepsRulesUnder, HasNoLoops}
use Rattle.cal_ast.specs.Tree.{PortName, Assignment, Component, Design}
use Rattle.cal_ast.specs.Wires.{IsAssignmentOf, set_ports}

abbrev pub is_cell : Option Text → Option Text → Bool
is_cell None None = true
is_cell None (Some b) = false
is_cell (Some a) None = false
is_cell (Some a) (Some b) = bytes_eq a b

-- the values of the assignments, of these, that drive the port of this component and whose guards are true, where `see` gives the values of its ports
abbrev pub local_values : (PortName → ℕ) → PortName → List Assignment → List ℕ
local_values see p [] = []
local_values see p (a ∷ sets) =
    if (is_cell a.dst.cell p.cell && bytes_eq a.dst.pin p.pin) && guard_holds see a.guard then source_value see a.src ∷ local_values see p sets
    else local_values see p sets

-- where names are plain, what drives a port of an instance is told by the names of its component alone
abbrev pub DrivesAreLocal : Type 0
DrivesAreLocal =
    (path : Path) (row : Row) (p : PortName) (sets : List Assignment) → IsPlainPort p → All (λ (a : Assignment). IsPlainPort a.dst) sets →
    values_for path (port_at path p.cell p.pin) row sets ≡ local_values (look path row) p sets

-- where pins and cells have plain names, so has each port that a line names
abbrev pub KnownPortsArePlain : Type 0
KnownPortsArePlain =
    (design : Design) (c : Component) (p : PortName) → HasPlainTree design → Contains design c → IsKnownPort design c p → IsPlainPort p

-- so have all ports of an assignment, continuous or in a group, by C1 to C11
abbrev pub AssignmentsArePlain : Type 0
AssignmentsArePlain =
    (naming : GroupNaming) (design : Design) (c : Component) (a : Assignment) → HasPlainTree design → KeepsRulesUnder naming design →
    Contains design c → IsAssignmentOf design c a → All IsPlainPort (a.dst ∷ set_ports a)

-- C12 over paths: a loop of full names would be a loop in some component
abbrev pub HasNoLoopOverPaths : Type 0
HasNoLoopOverPaths =
    (naming : GroupNaming) (design : Design) (top : Component) → HasPlainTree design → KeepsRulesUnder naming design → HasNoLoops design →
    Contains design top → (port : Text) → FlatReaches design top port port → ⊥
