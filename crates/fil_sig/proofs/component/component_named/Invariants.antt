use Rattle.std.proofs.Common.{◌≡◌, drop, map}
use Rattle.fil_ast.specs.Scope.{component_named}
use Rattle.fil_ast.specs.Tree.{component_tree}
use Rattle.fil_sig.proofs.component.component_named.Given as goal

-- no component before this one has the name
abbrev pub invariant-loop-comp : goal.invariant-loop-comp
invariant-loop-comp l =
    component_named (map (component_tree l.design.names) (drop l.comp-index l.design.comps.items)) l.name
    ≡ component_named (map (component_tree l.design.names) l.design.comps.items) l.name
