use Rattle.std.proofs.Common.{List, map, sym, ap, ◌∙◌}
use Rattle.cal_ast.specs.Numbers.{SetHasNumbers}
use Rattle.cal_ast.specs.Ports.{drives_done}
use Rattle.cal_ast.specs.Tree.{assignment_tree}
use Rattle.cal_ast.specs.declared.tree.Assign.{Assign}
use Rattle.cal_lower.proofs.DoneLemmas.{one_drives, none_drive_more, none_drive}
use Rattle.cal_lower.proofs.NextLemmas.{at_index, one_more}
use Rattle.cal_lower.proofs.NextLemmas.{all_at}
use Rattle.cal_lower.proofs.bare.drives_done.Goals as goal

pub is_own_done-requires : goal.is_own_done-requires
is_own_done-requires c =
    (all_at (SetHasNumbers c.args.names.now) c.args.comp.now.sets.items c.deref-set-items.result.now c.loop-set.set-index c.set-item.result c.deref-set-items.ensures.value c.requires c.loop-set-test.true c.set-item.is).0

pub returns-then-is_own_done : goal.returns-then-is_own_done
returns-then-is_own_done c =
    let names = c.args.names.now in
    let items = c.deref-set-items.result.now in
    let at = at_index items c.loop-set.set-index c.set-item.result c.loop-set-test.true c.set-item.is in
    sym (one_drives names items c.loop-set.set-index c.set-item.result at (sym c.is_own_done.ensures ∙ c.if-is_own_done.true))
    ∙ ap (λ (sets : List Assign). drives_done (map (assignment_tree names) sets)) c.deref-set-items.ensures.value

pub loop-set-preserved : goal.loop-set-preserved
loop-set-preserved c =
    let items = c.deref-set-items.result.now in
    let i = c.loop-set.set-index in
    let set = c.set-item.result in
    let more = one_more items i set (at_index items i set c.loop-set-test.true c.set-item.is) in
    none_drive_more c.args.names.now items i set more c.loop-set.invariant (sym c.is_own_done.ensures ∙ c.if-is_own_done.false)

pub returns : goal.returns
returns c = none_drive c.args.names.now c.deref-set-items.result.now c.args.comp.now.sets.items c.loop-set.set-index c.deref-set-items.ensures.value c.loop-set-test.false c.loop-set.invariant
