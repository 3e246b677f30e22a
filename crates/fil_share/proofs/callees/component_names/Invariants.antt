use Rattle.std.proofs.Common.{◌≡◌, take, map}
use Rattle.fil_ast.specs.Naming.{component_names}
use Rattle.fil_ast.specs.Tree.{component_tree}
use Rattle.fil_share.proofs.callees.component_names.Given as goal

-- the names so far
abbrev pub invariant-loop-comp : goal.invariant-loop-comp
invariant-loop-comp l = l.known ≡ component_names (map (component_tree l.names) (take l.comp-index l.comps))
