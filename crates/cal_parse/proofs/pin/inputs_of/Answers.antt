use Rattle.std.proofs.Common.{sym}
use Rattle.cal_parse.proofs.PinLists.{next_dropped, next_kept}
use Rattle.cal_parse.proofs.pin.inputs_of.Goals as goal
use Rattle.cal_parse.proofs.pin.inputs_of.Goals.{then-not-is_dropped+in_ok-push, else-not-is_dropped}

pub loop-meant-preserved : goal.loop-meant-preserved
loop-meant-preserved c = λ names.
    elim c.if-not-is_dropped.branch [
      | then-not-is_dropped+in_ok-push w ↦
          rw (w.inputs-is, w.in_ok-push.ensures.items)
          (next_kept names c.args.pins.now c.loop-meant.meant-index _ c.loop-meant.inputs.items c.loop-meant-test.true (c.loop-meant.invariant names) (sym w.if-not-is_dropped.ensures))
      | else-not-is_dropped w ↦
          rw w.inputs-is (next_dropped names c.args.pins.now c.loop-meant.meant-index _ c.loop-meant.inputs.items c.loop-meant-test.true (c.loop-meant.invariant names) (sym w.if-not-is_dropped.ensures))
    ]
