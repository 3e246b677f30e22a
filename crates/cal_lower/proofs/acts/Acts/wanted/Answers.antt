use Rattle.std.proofs.Common.{arith}
use Rattle.cal_lower.proofs.WantedLemmas.{wanted_shown, wanted_within}
use Rattle.cal_lower.proofs.acts.Acts.wanted.Goals as goal

pub index-requires : goal.index-requires
index-requires c =
    let (names, enabled, tested, shows) = c.requires.shown in
    let within = wanted_within names enabled tested c.args.self.now c.in-Some.number.0 c.args.group.now c.in-Some.ensures.text shows in
    omega (arith, within, c.args.self.now.wanted.ok.0)

pub returns : goal.returns
returns c = λ names enabled tested shows.
    wanted_shown names enabled tested c.args.self.now c.in-Some.number.0 c.args.group.now c.index.result.now c.in-Some.ensures.text c.index.ensures shows
