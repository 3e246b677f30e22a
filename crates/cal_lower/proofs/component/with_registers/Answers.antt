use Rattle.std.proofs.Common.{◌++◌, List, [], ◌∷◌, All, map, sym, subst, codes}
use Rattle.std.specs.Prelude.{flat_map}
use Rattle.std.specs.List.{AllZip}
use Rattle.hw_prims.specs.Table.{Pin}
use Rattle.cal_ast.specs.Numbers.{PinHasNumber}
use Rattle.cal_ast.specs.Ports.{inputs_in, outputs_in, with_pin}
use Rattle.cal_ast.specs.Tree.{assignment_tree, cell_tree, component_tree, group_tree, pin_tree}
use Rattle.cal_ast.specs.declared.tree.CalPin.{CalPin}
use Rattle.cal_ast.specs.declared.tree.Group.{Group}
use Rattle.cal_copy.specs.inside.Copies.{IsGroupCopy}
use Rattle.cal_lower.specs.inside.Lowered.{control_pieces, done_set}
use Rattle.cal_lower.specs.inside.Pieces.{piece_cell, piece_sets}
use Rattle.cal_lower.specs.inside.Shown.{ShowAll}
use Rattle.cal_lower.proofs.ComponentLemmas.{cells_whole, component_made, ins_with_go, labels_in_four, outs_with_done, pins_at, sets_whole}
use Rattle.cal_lower.proofs.CopiedLemmas.{groups_copied}
use Rattle.cal_lower.proofs.GrownLemmas.{labels_texts, labels_trans, show_all_kept}
use Rattle.cal_lower.proofs.InstanceLemmas.{labels_in_three}
use Rattle.cal_lower.proofs.StableLemmas.{KeepsTexts-trans}
use Rattle.cal_lower.proofs.component.with_registers.Goals as goal

pub done_set-requires : goal.done_set-requires
done_set-requires c = labels_texts c.args.labels.now c.control_pieces.new.labels c.control_pieces.ensures.kept c.requires.texts

pub with_pin-requires : goal.with_pin-requires
with_pin-requires c =
    let (source, can) = c.requires.comp in
    let kept = labels_trans c.args.labels.now c.control_pieces.new.labels c.done_set.new.labels c.control_pieces.ensures.kept c.done_set.ensures.kept in
    pins_at source c.args.labels.now.names c.done_set.new.labels.names can.kept kept.names c.args.comp.now.ins.items c.deref-3.result.now c.deref-3.ensures.value can.numbers.ins

pub with_pin-requires-2 : goal.with_pin-requires-2
with_pin-requires-2 c =
    let (source, can) = c.requires.comp in
    let first = labels_trans c.args.labels.now c.control_pieces.new.labels c.done_set.new.labels c.control_pieces.ensures.kept c.done_set.ensures.kept in
    let kept = labels_trans c.args.labels.now c.done_set.new.labels c.with_pin.new.labels first c.with_pin.ensures.kept in
    pins_at source c.args.labels.now.names c.with_pin.new.labels.names can.kept kept.names c.args.comp.now.outs.items c.deref-4.result.now c.deref-4.ensures.value can.numbers.outs

pub returns-in_err-push-clause-kept : goal.returns-in_err-push-clause-kept
returns-in_err-push-clause-kept c = labels_trans c.args.labels.now c.control_pieces.new.labels c.done_set.new.labels c.control_pieces.ensures.kept c.done_set.ensures.kept

pub returns-in_err-with_pin-clause-kept : goal.returns-in_err-with_pin-clause-kept
returns-in_err-with_pin-clause-kept c =
    labels_in_three c.args.labels.now c.control_pieces.new.labels c.done_set.new.labels c.with_pin.new.labels c.control_pieces.ensures.kept c.done_set.ensures.kept c.with_pin.ensures.kept

pub returns-in_err-with_pin-2-clause-kept : goal.returns-in_err-with_pin-2-clause-kept
returns-in_err-with_pin-2-clause-kept c =
    labels_in_four c.args.labels.now c.control_pieces.new.labels c.done_set.new.labels c.with_pin.new.labels c.with_pin-2.new.labels c.control_pieces.ensures.kept c.done_set.ensures.kept c.with_pin.ensures.kept
    c.with_pin-2.ensures.kept

pub returns-in_err-copy_groups-clause-kept : goal.returns-in_err-copy_groups-clause-kept
returns-in_err-copy_groups-clause-kept c =
    labels_in_four c.args.labels.now c.control_pieces.new.labels c.done_set.new.labels c.with_pin.new.labels c.with_pin-2.new.labels c.control_pieces.ensures.kept c.done_set.ensures.kept c.with_pin.ensures.kept
    c.with_pin-2.ensures.kept

pub returns-clause-kept : goal.returns-clause-kept
returns-clause-kept c =
    labels_in_four c.args.labels.now c.control_pieces.new.labels c.done_set.new.labels c.with_pin.new.labels c.with_pin-2.new.labels c.control_pieces.ensures.kept c.done_set.ensures.kept c.with_pin.ensures.kept
    c.with_pin-2.ensures.kept

pub returns-clause-lowered : goal.returns-clause-lowered
returns-clause-lowered c = λ source can full.
    let comp = c.args.comp.now in
    let tree = component_tree source comp in
    let first = c.args.labels.now.names in
    let second = c.control_pieces.new.labels.names in
    let third = c.done_set.new.labels.names in
    let fourth = c.with_pin.new.labels.names in
    let names = c.with_pin-2.new.labels.names in
    let from_second = KeepsTexts-trans source first second can.kept c.control_pieces.ensures.kept.names in
    let from_third = KeepsTexts-trans source second third from_second c.done_set.ensures.kept.names in
    let from_fourth = KeepsTexts-trans source third fourth from_third c.with_pin.ensures.kept.names in
    let from_last = KeepsTexts-trans source fourth names from_fourth c.with_pin-2.ensures.kept.names in
    let third_last = KeepsTexts-trans third fourth names c.with_pin.ensures.kept.names c.with_pin-2.ensures.kept.names in
    let second_last = KeepsTexts-trans second third names c.done_set.ensures.kept.names third_last in
    let pieces = c.in_ok-pieces.ensures.pieces source can in
    let ins = c.in_ok-with_pin.field-0 in
    let outs = c.in_ok-with_pin-2.field-0 in
    let groups = c.in_ok-copy_groups.field-0 in
    let own_ins = map (pin_tree source) comp.ins.items in
    let own_outs = map (pin_tree source) comp.outs.items in
    let N : List CalPin → Type 0 = λ ps. All (PinHasNumber source) ps in
    let W : List CalPin → Type 0 = λ ps. ShowAll PinHasNumber pin_tree fourth (with_pin (codes "go") (map (pin_tree source) ps)) ins.items in
    let X : List CalPin → Type 0 = λ ps. ShowAll PinHasNumber pin_tree names (with_pin (codes "done") (map (pin_tree source) ps)) outs.items in
    let I : List Pin → Type 0 = λ l. ShowAll PinHasNumber pin_tree names l ins.items in
    let O : List Pin → Type 0 = λ l. ShowAll PinHasNumber pin_tree names l outs.items in
    let G : List Group → Type 0 = λ l. AllZip IsGroupCopy l groups.items in
    let is_ins = subst W c.deref-3.ensures.value (c.in_ok-with_pin.ensures.pins source from_third (subst N (sym c.deref-3.ensures.value) can.numbers.ins)) in
    let is_outs = subst X c.deref-4.ensures.value (c.in_ok-with_pin-2.ensures.pins source from_fourth (subst N (sym c.deref-4.ensures.value) can.numbers.outs)) in
    let last_ins = show_all_kept PinHasNumber pin_tree fourth names (with_pin (codes "go") own_ins) ins.items c.with_pin-2.ensures.kept.names is_ins in
    component_made source names from_last comp.name can.numbers.name (inputs_in tree) (outputs_in tree) (map (cell_tree source) comp.cells.items ++ map piece_cell (control_pieces tree))
    (map (group_tree source) comp.groups.items) (map (assignment_tree source) comp.sets.items ++ flat_map piece_sets (control_pieces tree) ++ done_set ∷ []) ins outs c.append.new.self groups c.push.new.self
    (subst I (ins_with_go tree full) last_ins)
    (subst O (outs_with_done tree full) is_outs)
    (cells_whole source second names from_second second_last (control_pieces tree) comp.cells.items c.deref.result.now c.in_ok-cells.cells.items c.in_ok-pieces.pieces.cells.items c.append.new.self.items c.deref.ensures.value
    c.in_ok-cells.ensures can.numbers.cells pieces.cells c.in_ok-append.ensures.items)
    (groups_copied source names from_last comp.groups.items groups.items (subst G c.deref-5.ensures.value c.in_ok-copy_groups.ensures) can.numbers.groups)
    (sets_whole source second names from_second second_last (control_pieces tree) third c.done_set.ensures.kept.names third_last comp.sets.items c.deref-2.result.now c.in_ok-sets.sets.items c.in_ok-pieces.pieces.sets.items
    c.append-2.new.self.items c.push.new.self.items done_set c.in_ok-done_set.field-0 c.deref-2.ensures.value c.in_ok-sets.ensures can.numbers.sets pieces.sets c.in_ok-done_set.ensures.set c.in_ok-append-2.ensures.items
    c.in_ok-push.ensures.items)
