use Rattle.std.proofs.Common.{◌+◌, refl}
use Rattle.cal_rules.proofs.WalkLemmas.{breaks_one, passes_one}
use Rattle.cal_rules.proofs.walk.Walk.pass.Goals as goal

pub returns-in-Some : goal.returns-in-Some
returns-in-Some c place item tells = breaks_one place item c.args.self.now c.args.broken c.in-Some.rule c.in-Some.is tells

pub returns : goal.returns
returns c place item tells = passes_one place item c.args.self.now (record { item = c.args.self.now.item + 1 }) c.args.broken c.in_default.is tells refl
