use Rattle.net_steps.proofs.TruthLemmas.{either_made}
use Rattle.net_steps.proofs.truth.either.Goals as goal

pub returns : goal.returns
returns c =
    either_made c.args.steps.now c.both.new.steps c.args.left c.args.right c.not.result c.not-2.result c.in_ok-both.field-0 c.not-3.result c.not.ensures c.not-2.ensures c.not-3.ensures c.in_ok-both.ensures
