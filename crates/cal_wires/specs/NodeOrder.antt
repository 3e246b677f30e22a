-- The order of ports and holes by their full names. This project's.
use Rattle.std.specs.Prelude.{◌≡◌, ◌≢◌, ℕ, List, length, slice_get, Some}
use Rattle.std.specs.Cmp.Lexicographic.{slice_cmp}
use Rattle.std.specs.Ordering.{nat_cmp}
use Rattle.std.specs.declared.cmp.Ordering.TheVariants.{Greater}
use Rattle.hw_graph.specs.ByName.{IsAtMost}
use Rattle.hw_names.specs.Name.{Text}
use Rattle.hw_short.specs.declared.full_name.FullName.{FullName}
use Rattle.hw_short.specs.declared.full_name.FullName.TheVariants.{Own, Dotted, Nameless}
use Rattle.cal_ast.specs.Wires.{shown}
use Rattle.cal_wires.specs.Nodes.{Node, APort, AHole, HasKey, key_of}
use Rattle.cal_wires.specs.declared.ports.NodeKey.{NodeKey}
use Rattle.cal_wires.specs.declared.ports.NodeKey.TheVariants as key

-- the full name of the one port is not above that of the other, and holes come after ports
abbrev pub IsUpTo : Node → Node → Type 0
IsUpTo (APort p) (APort q) = slice_cmp nat_cmp (shown p) (shown q) ≢ Greater
IsUpTo (APort p) (AHole k) = Unit {0}
IsUpTo (AHole k) (APort p) = ⊥
IsUpTo (AHole j) (AHole k) = Unit {0}

-- the order of names, by the numbers of nodes, tells the order of the nodes
pub record TellNodes (keys names : List Text) : Type 0 where
  pub sized : length names ≡ length keys
  pub each : (i j : ℕ) (n m : Node) → HasKey n → HasKey m → slice_get keys i ≡ Some (key_of n) → slice_get keys j ≡ Some (key_of m) →
      IsAtMost names i j → IsUpTo n m

-- the full name by the numbers of texts; a hole has none
abbrev pub full_name_in : NodeKey → FullName
full_name_in (key.Own pin) = Own pin
full_name_in (key.OfCell cell pin) = Dotted cell pin
full_name_in (key.Hole k) = Nameless
