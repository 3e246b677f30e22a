use Rattle.net_steps.proofs.ApartLemmas.{never_fixed, never_opposite, never_turned}
use Rattle.net_steps.proofs.apart.are_contrary.Goals as goal

pub returns-then-is_never : goal.returns-then-is_never
returns-then-is_never c e = never_fixed c.args.steps.now c.args.one c.args.other (c.is_never.ensures c.if-is_never.true)

pub returns-then-are_opposite : goal.returns-then-are_opposite
returns-then-are_opposite c e = never_opposite c.args.steps.now c.args.one c.args.other (c.are_opposite.ensures c.if-are_opposite.true)

pub returns-else-ask_apart : goal.returns-else-ask_apart
returns-else-ask_apart c e = never_turned c.args.steps.now c.args.other c.args.one (c.ask_apart-else-ask_apart.ensures e)
