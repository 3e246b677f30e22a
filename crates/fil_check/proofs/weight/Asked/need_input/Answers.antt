use Rattle.std.proofs.Common.{List, Option, ◌++◌, subst}
use Rattle.fil_ast.specs.Timeline.{Interval, interval_at}
use Rattle.fil_sig.specs.Seen.{seen_port}
use Rattle.fil_place.specs.Times.{ShowsInterval}
use Rattle.fil_check.specs.inside.Weights.{IsAsked}
use Rattle.fil_place.specs.declared.times.Interval as numbers
use Rattle.fil_check.proofs.WeightLemmas.{need_shown}
use Rattle.fil_check.proofs.weight.Asked.need_input.Goals as goal

pub returns-in-Some : goal.returns-in-Some
returns-in-Some c events needs times gives distinct are asked =
    let o = interval_at gives (seen_port c.args.port.now) in
    let S : Option numbers.Interval → Type 0 = λ i. ShowsInterval events i o in
    let A : List Interval → Type 0 = λ ns. IsAsked events (needs ++ ns) times c.need.new.self in
    need_shown events c.in-Some.interval A o (subst S c.in-Some.is (c.interval_at.ensures.shown events gives are)) (λ j shown. c.need.ensures events needs times j distinct shown asked)
