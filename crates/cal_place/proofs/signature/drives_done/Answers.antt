use Rattle.std.proofs.Common.{◌≤◌, codes, length, map, refl, sym, ◌∙◌, arith}
use Rattle.std.proofs.lemmas.List.{length-map}
use Rattle.cal_ast.specs.Numbers.{SetHasNumbers}
use Rattle.cal_ast.specs.Ports.{is_own}
use Rattle.cal_ast.specs.Tree.{Assignment, assignment_tree}
use Rattle.cal_place.proofs.ListLemmas.{All-item, any_found, any_more, any_none, at_mapped}
use Rattle.cal_place.proofs.signature.drives_done.Goals as goal

pub is_own-requires : goal.is_own-requires
is_own-requires c =
    let sets = c.args.sets.now in
    (All-item (SetHasNumbers c.args.names.now) sets sets c.loop-set.set-index c.set-item.result refl c.loop-set-test.true c.set-item.is c.requires).0

pub returns-then-is_own : goal.returns-then-is_own
returns-then-is_own c =
    let tree = assignment_tree c.args.names.now in
    let sets = c.args.sets.now in
    let n = c.loop-set.set-index in
    let set = c.set-item.result in
    sym (any_found (λ (a : Assignment). is_own (codes "done") a.dst) (map tree sets) n (tree set) (at_mapped tree sets sets n set refl c.loop-set-test.true c.set-item.is)
    (sym c.is_own.ensures ∙ c.if-is_own.true))

pub loop-set-preserved : goal.loop-set-preserved
loop-set-preserved c =
    let tree = assignment_tree c.args.names.now in
    let sets = c.args.sets.now in
    let n = c.loop-set.set-index in
    let set = c.set-item.result in
    any_more (λ (a : Assignment). is_own (codes "done") a.dst) (map tree sets) n (tree set) (at_mapped tree sets sets n set refl c.loop-set-test.true c.set-item.is)
    c.loop-set.invariant (sym c.is_own.ensures ∙ c.if-is_own.false)

pub returns : goal.returns
returns c =
    let tree = assignment_tree c.args.names.now in
    let sets = c.args.sets.now in
    let end : length (map tree sets) ≤ c.loop-set.set-index = omega (arith, c.loop-set-test.false, length-map sets tree) in
    sym (any_none (λ (a : Assignment). is_own (codes "done") a.dst) (map tree sets) c.loop-set.set-index end c.loop-set.invariant)
