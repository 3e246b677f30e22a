use Rattle.std.proofs.Common.{false, nat_lt}
use Rattle.net_steps.proofs.TruthLemmas.{known_alone, known_by, never_less}
use Rattle.net_steps.proofs.truth.known_less.Goals as goal

pub returns-then-a-b : goal.returns-then-a-b
returns-then-a-b c = known_alone c.args.steps.now c.args.a c.args.b nat_lt false c.if-a-b.true never_less

pub returns : goal.returns
returns c =
    known_by c.args.steps.now c.args.a c.args.b c.in_ok-left.left c.in_ok-right.right nat_lt c.in_ok-left.ensures c.in_ok-right.ensures
