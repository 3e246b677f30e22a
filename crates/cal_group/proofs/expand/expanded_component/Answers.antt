use Rattle.std.proofs.Common.{List, Vec, Global, refl, ap, subst, ◌∙◌}
use Rattle.std.specs.List.{AllZip}
use Rattle.cal_ast.specs.Tree.{component_tree}
use Rattle.cal_ast.specs.declared.tree.Assign.{Assign}
use Rattle.cal_ast.specs.declared.tree.CalCell.{CalCell}
use Rattle.cal_ast.specs.declared.tree.CalComp.{CalComp}
use Rattle.cal_ast.specs.declared.tree.Group.{Group}
use Rattle.cal_copy.specs.inside.Copies.{IsCellCopy, IsGroupCopy, IsSetCopy}
use Rattle.cal_group.proofs.ComponentLemmas.{made_numbers, made_tree}
use Rattle.cal_group.proofs.expand.expanded_component.Goals as goal

pub returns-clause-component : goal.returns-clause-component
returns-clause-component c = λ later design is has named can.
    let source = c.args.cells.source.now in
    let comp = c.args.comp.now in
    let new = c.expand_control.new.made in
    let item = c.in_ok-made.field-0 in
    let copied = c.in_ok-made-2.field-0.items in
    let answer : CalComp =
    record {
      name = comp.name;
      ins = c.in_ok-from_slice.field-0;
      outs = c.in_ok-from_slice-2.field-0;
      cells = c.in_ok-copy_cells.field-0;
      groups = c.replace-groups.result;
      sets = c.in_ok-copy_sets.field-0;
      control = c.in_ok-control.control;
    } in
    let G : List Group → Type 0 = λ gs. AllZip IsGroupCopy gs copied in
    let C : List CalCell → Type 0 = λ cs. AllZip IsCellCopy cs answer.cells.items in
    let S : List Assign → Type 0 = λ ss. AllZip IsSetCopy ss answer.sets.items in
    let first = c.in_ok-made.ensures source in
    let copies = subst G c.deref.ensures.value c.in_ok-made-2.ensures in
    let adds = c.in_ok-control.ensures.groups design (component_tree source comp) has named can in
    let ins = c.in_ok-from_slice.ensures.items ∙ c.deref-2.ensures.value in
    let outs = c.in_ok-from_slice-2.ensures.items ∙ c.deref-3.ensures.value in
    let cells = subst C c.deref-4.ensures.value c.in_ok-copy_cells.ensures in
    let groups = ap (λ (v : Vec Group Global). v.items) c.replace-groups.ensures.value in
    let sets = subst S c.deref-5.ensures.value c.in_ok-copy_sets.ensures in (
      made_tree source new.names later is design comp c.requires.numbers item copied new.groups.items first copies adds answer refl ins outs cells groups sets (c.in_ok-control.ensures.control later is),
      made_numbers source new.names later is design comp c.requires.numbers item copied new.groups.items first copies adds answer refl ins outs cells groups sets (c.in_ok-control.ensures.numbers later is),
    )
