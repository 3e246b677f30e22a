use Rattle.std.proofs.Common.{◌≡◌, ◌++◌, take}
use Rattle.std.specs.List.{flat_map}
use Rattle.cal_ast.specs.Tree.{component_tree}
use Rattle.cal_print.specs.Layout.{component_text}
use Rattle.cal_print.proofs.design.put_components.Given as goal

abbrev pub invariant-loop-comp : goal.invariant-loop-comp
invariant-loop-comp l = l.out.items ≡ l.initial.out.items ++ flat_map (λ x. component_text (component_tree l.names x)) (take l.comp-index l.comps)
