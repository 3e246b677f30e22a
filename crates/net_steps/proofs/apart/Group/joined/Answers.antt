use Rattle.net_steps.proofs.ApartLemmas.{joins}
use Rattle.net_steps.proofs.apart.Group.joined.Goals as goal

pub returns-then-is_never : goal.returns-then-is_never
returns-then-is_never c =
    joins c.args.steps.now c.args.self c.args.truth (c.never_both.ensures c.if-never_both.true) (c.never_both-then-never_both.ensures c.if-never_both-2.true) (c.never_both-then-never_both-2.ensures c.if-never_both-3.true) (c.is_never.ensures c.if-is_never.true)
