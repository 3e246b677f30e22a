use Rattle.std.proofs.Common.{List, [], ◌∷◌, ◌++◌, sym, ap, ◌∙◌}
use Rattle.cal_ast.specs.declared.tree.CalPin.{CalPin}
use Rattle.cal_lower.proofs.NamedPinLemmas.{pin_added, pin_there}
use Rattle.cal_lower.proofs.bare.with_pin.Goals as goal

pub returns-then-has_pin-clause-pins : goal.returns-then-has_pin-clause-pins
returns-then-has_pin-clause-pins c = λ source kept known.
    pin_there source c.args.labels.now.names c.args.pins.now kept known c.args.name.now c.in_ok-all.all.items c.in_ok-all.ensures.items (sym c.has_pin.ensures ∙ c.if-has_pin.true)

pub returns-clause-pins : goal.returns-clause-pins
returns-clause-pins c = λ source kept known.
    let added = c.in_ok-added.added in
    let items = c.in_ok-push.ensures.items ∙ ap (λ (l : List CalPin). l ++ record { name = added; width = 1 } ∷ []) c.in_ok-all.ensures.items in
    pin_added source c.args.labels.now.names c.args.pins.now kept known c.add_name.new.names c.args.name.now added c.push.new.self.items c.add_name.ensures.kept c.in_ok-added.ensures.text items
    (sym c.has_pin.ensures ∙ c.if-has_pin.false)
