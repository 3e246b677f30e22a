use Rattle.std.proofs.lemmas.List.Elements.{all_zip_more}
use Rattle.cal_copy.specs.inside.Copies.{IsSetCopy}
use Rattle.cal_copy.proofs.copy.copy_sets.Goals as goal

pub loop-set-preserved : goal.loop-set-preserved
loop-set-preserved c =
    rw c.in_ok-push.ensures.items
    (all_zip_more IsSetCopy c.args.sets.now c.loop-set.copies.items c.loop-set.set-index c.set-item.result c.in_ok-copy_set.field-0
    c.loop-set-test.true c.set-item.is c.loop-set.invariant c.in_ok-copy_set.ensures)
