use Rattle.std.proofs.Common.{true, nat_eq}
use Rattle.net_steps.proofs.TruthLemmas.{known_alone, known_by, equal_itself}
use Rattle.net_steps.proofs.truth.known_equal.Goals as goal

pub returns-then-a-b : goal.returns-then-a-b
returns-then-a-b c = known_alone c.args.steps.now c.args.a c.args.b nat_eq true c.if-a-b.true equal_itself

pub returns : goal.returns
returns c =
    known_by c.args.steps.now c.args.a c.args.b c.in_ok-left.left c.in_ok-right.right nat_eq c.in_ok-left.ensures c.in_ok-right.ensures
