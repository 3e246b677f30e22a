use Rattle.std.proofs.Common.{◌<◌, arith, get_or, length}
use Rattle.hw_graph.proofs.ReachLemmas.{marked_more, added_more, added_known}
use Rattle.hw_graph.proofs.reach.add_unmarked.Goals.{then-not-marks-port+in_ok-push, else-not-marks-port}
use Rattle.hw_graph.proofs.reach.add_unmarked.Goals as goal

pub loop-port-preserved : goal.loop-port-preserved
loop-port-preserved c =
    let ports = c.args.ports.now in
    let k = c.loop-port.port-index in
    let marks = c.loop-port.marks in
    let before = c.args.reached.now.items in
    let now = c.loop-port.reached.items in
    let (marked, added) = c.loop-port.invariant in
    let within : k < length ports = c.loop-port-test.true in
    let in_marks : get_or ports k 0 < length marks = omega (arith, c.requires.in_range k 0 within, c.loop-port.auto.marks) in
    elim c.if-not-marks-port.branch [
      | then-not-marks-port+in_ok-push w ↦
          rw (w.marks-is, w.reached-is, w.in_ok-push.ensures.items)
          (marked_more marks now (get_or ports k 0) in_marks w.if-not-marks-port.true marked, added_more k ports before now within added)
      | else-not-marks-port w ↦
          rw (w.marks-is, w.reached-is)
          (marked, added_known k ports before now within added (marked.others (get_or ports k 0) w.if-not-marks-port.false))
    ]
