use Rattle.std.proofs.Common.{◌++◌, map, ap, ap₂, ◌∙◌}
use Rattle.hw_prims.specs.Table.{pin}
use Rattle.fil_ast.specs.Tree.{DataPort, Interface, interface_tree, port_tree}
use Rattle.fil_lower.proofs.cells.input_pins.Goals as goal

pub returns-clause-pins : goal.returns-clause-pins
returns-clause-pins c = λ names.
    c.in_ok-push_pins.ensures.pins names
    ∙ ap₂ (λ gos ports. gos ++ map (λ (p : DataPort). pin p.name p.width) (map (port_tree names) ports))
    (c.in_ok-pins.ensures.pins names ∙ ap (λ gos. map (λ (g : Interface). pin g.name g.width) (map (interface_tree names) gos)) c.deref.ensures.value)
    c.deref-2.ensures.value
