use Rattle.std.proofs.Common.{List, All, map, sym, ap, ap₂, subst, ◌∙◌, arith}
use Rattle.std.proofs.lemmas.List.Elements.{All-nil, All-weaker}
use Rattle.hw_names.proofs.NameLemmas.{length-KeepsTexts, text_of-KeepsTexts}
use Rattle.hw_names.specs.Name.{Text}
use Rattle.hw_prims.specs.Table.{Pin}
use Rattle.cal_ast.specs.Numbers.{GroupHasNumbers, PinHasNumber}
use Rattle.cal_ast.specs.Tree.{Absent, Component, GroupDef, assignment_tree, cell_tree, group_tree, pin_tree}
use Rattle.cal_ast.specs.declared.tree.Group.{Group}
use Rattle.fil_lower.proofs.KeptLemmas.{pin_numbers, pins_kept}
use Rattle.fil_lower.proofs.component.bare_component.Goals as goal

pub returns-clause-component : goal.returns-clause-component
returns-clause-component c = λ names kept known.
    let own = c.args.body.now.names.now in
    let comp = c.args.body.now.comp.now in
    let of : Text → List Pin → List Pin → List GroupDef → Component = λ name ins outs groups.
    record { name = name; ins = ins; outs = outs; cells = map (cell_tree names) c.args.cells.items; groups = groups; sets = map (assignment_tree names) c.args.sets.items; control = Absent } in
    let ins = pins_kept own names kept c.in_ok-input_pins.field-0.items (c.in_ok-input_pins.ensures.numbers own known) ∙ c.in_ok-input_pins.ensures.pins own in
    let outs = pins_kept own names kept c.in_ok-output_pins.field-0.items (c.in_ok-output_pins.ensures.numbers own known) ∙ c.in_ok-output_pins.ensures.pins own in
    ap₂ (λ name ins. of name ins (map (pin_tree names) c.in_ok-output_pins.field-0.items) (map (group_tree names) c.new.result.items)) (text_of-KeepsTexts own names comp.name kept known.name) ins
    ∙ ap₂ (of _ _) outs (ap (map (group_tree names)) c.new.ensures.items)

pub returns-clause-numbers : goal.returns-clause-numbers
returns-clause-numbers c = λ names kept known cells sets.
    let own = c.args.body.now.names.now in
    let comp = c.args.body.now.comp.now in
    let G : List Group → Type 0 = All (GroupHasNumbers names) in
    record {
      name = omega (arith, length-KeepsTexts own names kept, known.name);
      ins = All-weaker (PinHasNumber own) (PinHasNumber names) (pin_numbers own names kept) c.in_ok-input_pins.field-0.items (c.in_ok-input_pins.ensures.numbers own known);
      outs = All-weaker (PinHasNumber own) (PinHasNumber names) (pin_numbers own names kept) c.in_ok-output_pins.field-0.items (c.in_ok-output_pins.ensures.numbers own known);
      cells = cells;
      groups = subst G (sym c.new.ensures.items) (All-nil (GroupHasNumbers names));
      sets = sets;
      control = tt;
    }
