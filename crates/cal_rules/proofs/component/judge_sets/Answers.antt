use Rattle.std.proofs.Common.{◌≡◌, ◌<◌, ◌≤◌, [], ◌∷◌, length, map, slice_get, Some, refl, arith}
use Rattle.std.proofs.lemmas.List.{length-map}
use Rattle.cal_ast.specs.Items.{TheAssignment}
use Rattle.cal_ast.specs.Numbers.{SetHasNumbers}
use Rattle.cal_ast.specs.Tree.{assignment_tree}
use Rattle.cal_place.specs.Around.{names_at}
use Rattle.cal_place.proofs.FoundLemmas.{to_map}
use Rattle.cal_place.proofs.ListLemmas.{All-item, at_mapped}
use Rattle.cal_rules.proofs.WalkLemmas.{ended, last_item, next_item, passes_all, passes_none, walk_memory, walk_passed}
use Rattle.cal_rules.proofs.component.judge_sets.Goals as goal

pub at_assignment-requires : goal.at_assignment-requires
at_assignment-requires c =
    let sets = c.args.sets.now in
    let within : c.loop-set.set-index < length sets = omega arith in
    All-item (SetHasNumbers (names_at c.args.place.now)) sets sets c.loop-set.set-index c.set-item.result refl within c.set-item.is c.requires

pub loop-set-init : goal.loop-set-init
loop-set-init c = passes_none c.args.place.now c.args.walk.now

pub returns-in_err-at_assignment : goal.returns-in_err-at_assignment
returns-in_err-at_assignment c =
    let p = c.args.place.now in
    walk_memory p (map TheAssignment (map (assignment_tree (names_at p)) c.args.sets.now)) c.args.walk.now c.loop-set.walk c.from_residual.result c.from_residual.ensures.1

pub returns-in_err-pass : goal.returns-in_err-pass
returns-in_err-pass c =
    let p = c.args.place.now in
    let tree = assignment_tree (names_at p) in
    let sets = c.args.sets.now in
    let n = c.loop-set.set-index in
    let items = map TheAssignment (map tree sets) in
    let item = TheAssignment (tree c.set-item.result) in
    let within : n < length sets = omega arith in
    let at : slice_get items n ≡ Some item =
    to_map TheAssignment (map tree sets) n (tree c.set-item.result) (at_mapped tree sets sets n c.set-item.result refl within c.set-item.is) in
    let end = c.in_err-pass.field-0.0 in
    walk_passed p items c.args.walk.now c.pass.new.self c.from_residual-in_err-pass.result end c.from_residual-in_err-pass.ensures.1
    (last_item p items n item at c.args.walk.now c.loop-set.walk c.loop-set.invariant end
    (ended p (Unit {0}) (item ∷ []) c.loop-set.walk c.pass.new.self end (c.in_err-pass.ensures p item c.in_ok-at_assignment.ensures)))

pub loop-set-preserved : goal.loop-set-preserved
loop-set-preserved c =
    let p = c.args.place.now in
    let tree = assignment_tree (names_at p) in
    let sets = c.args.sets.now in
    let n = c.loop-set.set-index in
    let items = map TheAssignment (map tree sets) in
    let item = TheAssignment (tree c.set-item.result) in
    let within : n < length sets = omega arith in
    let at : slice_get items n ≡ Some item =
    to_map TheAssignment (map tree sets) n (tree c.set-item.result) (at_mapped tree sets sets n c.set-item.result refl within c.set-item.is) in
    next_item p items n item at c.args.walk.now c.loop-set.walk c.loop-set.invariant c.pass.new.self (c.in_ok-pass.ensures p item c.in_ok-at_assignment.ensures)

pub returns : goal.returns
returns c =
    let p = c.args.place.now in
    let tree = assignment_tree (names_at p) in
    let sets = c.args.sets.now in
    let items = map TheAssignment (map tree sets) in
    let end : length items ≤ c.loop-set.set-index = omega (arith, length-map (map tree sets) TheAssignment, length-map sets tree) in
    passes_all p items c.loop-set.set-index c.args.walk.now c.loop-set.walk end c.loop-set.invariant
