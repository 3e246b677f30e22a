use Rattle.std.proofs.Common.{◌∷◌, ◌++◌, [], List, ap, ◌∙◌}
use Rattle.hw_graph.specs.declared.groups.Entry.{Entry}
use Rattle.ver_print.proofs.DriverLemmas.{entries_more}
use Rattle.ver_print.proofs.drives.entries.Goals as goal

pub loop-number-preserved : goal.loop-number-preserved
loop-number-preserved c =
    let a = c.index-sets-number.result in
    c.in_ok-push.ensures.items
    ∙ ap (λ (es : List Entry). es ++ record { key = a.dst.0; value = c.loop-number.number } ∷ []) c.loop-number.invariant
    ∙ entries_more c.args.sets.now c.loop-number.number a c.loop-number-test.true c.index-sets-number.is
