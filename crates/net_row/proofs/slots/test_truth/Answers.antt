use Rattle.net_row.proofs.TruthLemmas.{test_made}
use Rattle.net_row.proofs.slots.test_truth.Goals as goal

pub returns : goal.returns
returns c =
    test_made c.args.steps.now c.source.new.steps c.source-2.new.steps c.compare.new.steps c.choose.new.steps c.args.ports.now.slots.items c.args.truths.now.of_tests.items c.args.test.now
    c.in_ok-left.left c.in_ok-right.right c.in_ok-on.on c.in_ok-yes.yes c.in_ok-no.no c.in_ok-choose.field-0
    c.in_ok-left.ensures c.in_ok-right.ensures c.in_ok-on.ensures c.in_ok-yes.ensures c.in_ok-no.ensures c.in_ok-choose.ensures
