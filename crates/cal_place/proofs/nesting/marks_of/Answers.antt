use Rattle.std.proofs.Common.{◌<◌, ◌≤◌, length, get_or, rules, arith}
use Rattle.cal_place.proofs.MarkLemmas.{marked_more, marked_start, marks_told}
use Rattle.cal_place.proofs.nesting.marks_of.Goals as goal

pub loop-port-init : goal.loop-port-init
loop-port-init c = marked_start c.args.number c.args.count c.args.reached.now _ c.requires.number (search rules)

pub loop-port-preserved : goal.loop-port-preserved
loop-port-preserved c =
    let reached = c.args.reached.now in
    let k = c.loop-port.port-index in
    let within : get_or reached k 0 < c.args.count = c.requires.reached k 0 c.loop-port-test.true in
    marked_more c.args.number c.args.count k reached c.loop-port.marks.items _ within (search rules) c.loop-port.invariant

pub returns : goal.returns
returns c =
    let reached = c.args.reached.now in
    let most : c.loop-port.port-index ≤ length reached = omega arith in
    marks_told c.args.number c.args.count c.loop-port.port-index reached c.loop-port.marks.items c.loop-port-test.false most c.loop-port.invariant
