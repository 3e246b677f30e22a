use Rattle.std.proofs.Common.{◌≡◌, ◌<◌, length, subst, arith}
use Rattle.std.proofs.lemmas.Option.{slice_get-get_or}
use Rattle.net_row.proofs.NextLemmas.{AreNextOf, next_more, next_all}
use Rattle.net_row.proofs.outputs.next_kept.Goals as goal

pub loop-cell-preserved : goal.loop-cell-preserved
loop-cell-preserved c =
    let lt : c.loop-cell.cell-index < length c.args.cells.now = omega arith in
    next_more c.args.steps.now c.loop-cell.steps c.add_next.new.steps c.args.ports.now.slots.items c.args.cells.now c.loop-cell.cell-index _
    c.loop-cell.next.items c.add_next.new.next.items c.loop-cell.invariant (slice_get-get_or c.args.cells.now c.loop-cell.cell-index _ lt)
    c.in_ok-add_next.ensures

pub returns : goal.returns
returns c =
    let all : c.loop-cell.cell-index ≡ length c.args.cells.now = omega arith in
    next_all c.args.steps.now c.loop-cell.steps c.args.ports.now.slots.items c.args.cells.now c.loop-cell.next.items
    (subst (λ i. AreNextOf c.args.steps.now c.loop-cell.steps c.args.ports.now.slots.items c.args.cells.now i c.loop-cell.next.items) all c.loop-cell.invariant)
