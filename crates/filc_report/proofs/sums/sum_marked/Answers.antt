use Rattle.std.proofs.Common.{◌+◌, ◌<◌, length, take, slice_range, if◌then◌else◌, arith}
use Rattle.filc_report.specs.Sums.{marked_sum}
use Rattle.filc_report.proofs.RowLemmas.{range_at, range_length}
use Rattle.filc_report.proofs.SumLemmas.{marked_more, total_more}
use Rattle.filc_report.proofs.sums.sum_marked.Goals as goal

pub loop-at-preserved : goal.loop-at-preserved
loop-at-preserved c =
    let v = c.args.view.now in
    let at = c.loop-at.at in
    let values = slice_range c.args.sim.now.values v.ports.start v.ports.end in
    let marks = v.shown.items in
    let marked : at < length marks = omega (arith, c.loop-at-test.true, c.requires.marks) in
    let inside : v.ports.start + at < v.ports.end = omega (arith, c.requires.marks, marked) in
    let within : at < length values = omega (arith, inside, range_length c.args.sim.now.values v.ports.start v.ports.end c.requires.evaluated) in
    total_more c.loop-at.total (marked_sum (take at values) (take at marks)) c.low_if-total.result (if c.index.result.now then c.value.result.value else 0) (marked_sum (take (at + 1) values) (take (at + 1) marks))
    c.loop-at.invariant c.low_if-total.ensures
    (marked_more values marks at c.value.result.value c.index.result.now within marked (range_at c.args.sim.now.values v.ports.start v.ports.end at c.value.result.value inside c.value.ensures.value) c.index.ensures)
