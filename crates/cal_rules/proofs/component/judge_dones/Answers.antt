use Rattle.std.proofs.Common.{◌≡◌, ◌≤◌, [], ◌∷◌, length, take, slice_get, Some, ap, arith}
use Rattle.std.proofs.lemmas.List.{length-map}
use Rattle.cal_ast.proofs.ItemLemmas.{slice_get-each}
use Rattle.cal_ast.specs.Items.{TheDone, each}
use Rattle.cal_ast.specs.Numbers.{DoneHasNumbers}
use Rattle.cal_ast.specs.Tree.{done_tree, group_tree}
use Rattle.cal_place.specs.Around.{names_at}
use Rattle.cal_rules.proofs.ComponentLemmas.{each_length}
use Rattle.cal_place.proofs.ListLemmas.{All-item, at_mapped}
use Rattle.cal_rules.proofs.WalkLemmas.{ended, last_item, next_item, passes_all, passes_none, walk_memory, walk_passed}
use Rattle.cal_rules.proofs.component.judge_dones.Goals as goal

pub at_done-requires-clause-numbers : goal.at_done-requires-clause-numbers
at_done-requires-clause-numbers c =
    All-item (DoneHasNumbers (names_at c.args.place.now)) c.args.group.now.dones.items c.deref-done-items.result.now c.loop-number.number c.done-item.result c.deref-done-items.ensures.value c.loop-number-test.true c.done-item.is c.requires.dones

pub at_done-requires-clause-at : goal.at_done-requires-clause-at
at_done-requires-clause-at c =
    at_mapped (done_tree (names_at c.args.place.now)) c.args.group.now.dones.items c.deref-done-items.result.now c.loop-number.number c.done-item.result c.deref-done-items.ensures.value c.loop-number-test.true c.done-item.is

pub loop-number-init : goal.loop-number-init
loop-number-init c = passes_none c.args.place.now c.args.walk.now

pub returns-in_err-at_done : goal.returns-in_err-at_done
returns-in_err-at_done c =
    let p = c.args.place.now in
    let g = group_tree (names_at p) c.args.group.now in
    walk_memory p (each (TheDone g) g.dones) c.args.walk.now c.loop-number.walk c.from_residual.result c.from_residual.ensures.1

pub returns-in_err-pass : goal.returns-in_err-pass
returns-in_err-pass c =
    let p = c.args.place.now in
    let g = group_tree (names_at p) c.args.group.now in
    let n = c.loop-number.number in
    let tree = done_tree (names_at p) c.done-item.result in
    let at : slice_get g.dones n ≡ Some tree =
    at_mapped (done_tree (names_at p)) c.args.group.now.dones.items c.deref-done-items.result.now n c.done-item.result c.deref-done-items.ensures.value c.loop-number-test.true c.done-item.is in
    let item = TheDone g (take n g.dones) tree in
    let end = c.in_err-pass.field-0.0 in
    walk_passed p (each (TheDone g) g.dones) c.args.walk.now c.pass.new.self c.from_residual-in_err-pass.result end c.from_residual-in_err-pass.ensures.1
    (last_item p (each (TheDone g) g.dones) n item (slice_get-each (TheDone g) g.dones n tree at) c.args.walk.now c.loop-number.walk c.loop-number.invariant end
    (ended p (Unit {0}) (item ∷ []) c.loop-number.walk c.pass.new.self end (c.in_err-pass.ensures p item c.in_ok-at_done.ensures)))

pub loop-number-preserved : goal.loop-number-preserved
loop-number-preserved c =
    let p = c.args.place.now in
    let g = group_tree (names_at p) c.args.group.now in
    let n = c.loop-number.number in
    let tree = done_tree (names_at p) c.done-item.result in
    let at : slice_get g.dones n ≡ Some tree =
    at_mapped (done_tree (names_at p)) c.args.group.now.dones.items c.deref-done-items.result.now n c.done-item.result c.deref-done-items.ensures.value c.loop-number-test.true c.done-item.is in
    let item = TheDone g (take n g.dones) tree in
    next_item p (each (TheDone g) g.dones) n item (slice_get-each (TheDone g) g.dones n tree at) c.args.walk.now c.loop-number.walk c.loop-number.invariant c.pass.new.self
    (c.in_ok-pass.ensures p item c.in_ok-at_done.ensures)

pub returns : goal.returns
returns c =
    let p = c.args.place.now in
    let g = group_tree (names_at p) c.args.group.now in
    let end : length (each (TheDone g) g.dones) ≤ c.loop-number.number =
    omega (arith, ap length c.deref-done-items.ensures.value, each_length (TheDone g) g.dones, length-map c.args.group.now.dones.items (done_tree (names_at p))) in
    passes_all p (each (TheDone g) g.dones) c.loop-number.number c.args.walk.now c.loop-number.walk end c.loop-number.invariant
