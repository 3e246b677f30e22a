use Rattle.std.proofs.Common.{◌≡◌, ◌++◌, take, codes}
use Rattle.std.specs.List.{flat_map}
use Rattle.fil_ast.specs.Tree.{component_tree}
use Rattle.fil_parse.specs.Layout.{component_text}
use Rattle.fil_parse.proofs.print.put_components.Given as goal

abbrev pub invariant-loop-comp : goal.invariant-loop-comp
invariant-loop-comp l = l.out.items ≡ l.initial.out.items ++ flat_map (λ x. component_text (component_tree l.names x) ++ codes "\n") (take l.comp-index l.comps)
