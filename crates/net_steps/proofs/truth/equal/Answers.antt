use Rattle.std.proofs.Common.{◌==◌}
use Rattle.std.specs.Prelude.{slice_index}
use Rattle.net_steps.proofs.TruthLemmas.{always_fixed, seen_equal}
use Rattle.net_steps.proofs.truth.equal.Goals as goal

pub returns-in-Some : goal.returns-in-Some
returns-in-Some c = always_fixed c.args.steps.now (λ slots. slice_index slots c.args.a == slice_index slots c.args.b) c.in-Some.same c.in-Some.ensures

pub returns-then-is_constant : goal.returns-then-is_constant
returns-then-is_constant c = seen_equal c.args.steps.now c.args.a c.args.b c.seen.result c.seen.ensures (c.is_constant.ensures c.if-is_constant.true)
