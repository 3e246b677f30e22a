use Rattle.std.proofs.Common.{◌&&◌, ap, ◌∙◌}
use Rattle.net_steps.specs.Truths.{is_true}
use Rattle.net_steps.proofs.EqualityLemmas.{truths_same}
use Rattle.net_steps.proofs.TruthLemmas.{both_turned}
use Rattle.net_steps.proofs.truth.beside.Goals as goal

pub returns-then-eq : goal.returns-then-eq
returns-then-eq c others slots row =
    c.in_ok-one.ensures others slots row
    ∙ ap (λ t. is_true slots c.in_ok-one.one && is_true slots t) (truths_same c.in_ok-one.other c.args.part c.eq.result c.eq.ensures c.if-eq.true)

pub returns-then-eq-2 : goal.returns-then-eq-2
returns-then-eq-2 c others slots row =
    both_turned c.args.steps.now c.args.whole c.in_ok-one.one c.in_ok-one.other c.in_ok-one.ensures others slots row
    ∙ ap (λ t. is_true slots c.in_ok-one.other && is_true slots t) (truths_same c.in_ok-one.one c.args.part c.eq-2.result c.eq-2.ensures c.if-eq-2.true)
