-- The full name of a node's port, where there is one.
use Rattle.std.proofs.Common.{◌≡◌, [], ◌∷◌, Some, None, map, refl, ap, sym}
use Rattle.std.proofs.lemmas.Option.{none-some, same_Some}
use Rattle.hw_names.specs.Name.{Text}
use Rattle.cal_ast.specs.Wires.{shown}
use Rattle.cal_wires.specs.Nodes.{Node, APort, AHole, IsName, node_ports}

pub name_of_some : (node : Node) (name : Text) → IsName node (Some name) → name ∷ [] ≡ map shown (node_ports node)
name_of_some (APort p) name is = ap (λ (t : Text). t ∷ []) (same_Some name (shown p) is)
name_of_some (AHole k) name is = absurd (none-some name (sym is))

pub none_of_none : (node : Node) → IsName node None → [] ≡ map shown (node_ports node)
none_of_none (APort p) is = absurd (none-some (shown p) is)
none_of_none (AHole k) is = refl
