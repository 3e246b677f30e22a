use Rattle.std.proofs.lemmas.List.Elements.{all_zip_more}
use Rattle.cal_copy.specs.inside.Copies.{IsDoneCopy}
use Rattle.cal_copy.proofs.copy.copy_dones.Goals as goal

pub loop-done-preserved : goal.loop-done-preserved
loop-done-preserved c =
    rw c.in_ok-push.ensures.items
    (all_zip_more IsDoneCopy c.args.dones.now c.loop-done.copies.items c.loop-done.done-index c.done-item.result c.in_ok-copy_done.field-0
    c.loop-done-test.true c.done-item.is c.loop-done.invariant c.in_ok-copy_done.ensures)
