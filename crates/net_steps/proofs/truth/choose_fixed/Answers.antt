use Rattle.net_steps.proofs.TruthLemmas.{fixed_true, fixed_false}
use Rattle.net_steps.proofs.truth.choose_fixed.Goals as goal

pub returns-then-fixed : goal.returns-then-fixed
returns-then-fixed c =
    fixed_true c.either.result c.args.steps.now c.either.new.steps c.args.on c.args.other c.args.fixed c.if-fixed.true c.either.ensures

pub returns-else-fixed : goal.returns-else-fixed
returns-else-fixed c =
    fixed_false c.both.result c.args.steps.now c.both.new.steps c.args.on c.not.result c.args.other c.args.fixed c.if-fixed.false c.not.ensures c.both.ensures
