use Rattle.std.proofs.Common.{nat_lt}
use Rattle.std.specs.Prelude.{slice_index}
use Rattle.net_steps.proofs.TruthLemmas.{always_fixed}
use Rattle.net_steps.proofs.truth.less.Goals as goal

pub returns-in-Some : goal.returns-in-Some
returns-in-Some c = always_fixed c.args.steps.now (λ slots. nat_lt (slice_index slots c.args.a) (slice_index slots c.args.b)) c.in-Some.below c.in-Some.ensures
