use Rattle.std.proofs.Common.{eqb-true, ◌∙◌}
use Rattle.net_steps.proofs.steps.Steps.is_constant.Goals as goal

pub returns-in-Some : goal.returns-in-Some
returns-in-Some c same others slots row = c.in-Some.ensures others slots row ∙ eqb-true c.in-Some.there c.args.number same
