use Rattle.std.proofs.Common.{is_some, ap, sym, ◌∙◌}
use Rattle.cal_ast.specs.Invoking.{made_go}
use Rattle.cal_place.specs.Prototypes.{made_component, made_primitive}
use Rattle.cal_place.specs.declared.prototype.Prototype.{Prototype}
use Rattle.cal_place.proofs.PrimitiveLemmas.{part_go}
use Rattle.cal_place.proofs.prototype.go_of.Goals as goal

pub returns-in-Primitive : goal.returns-in-Primitive
returns-in-Primitive c part same = c.primitive_go.ensures ∙ ap (λ (m : Prototype). made_go (made_primitive m) part) (sym c.in-Primitive.is)

pub returns-in-Component : goal.returns-in-Component
returns-in-Component c part same =
    part_go part (same.0 (ap (λ (m : Prototype). is_some (made_component m)) c.in-Component.is)) ∙ ap (λ (m : Prototype). made_go (made_primitive m) part) (sym c.in-Component.is)
