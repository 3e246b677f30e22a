use Rattle.std.proofs.Common.{List, ℕ, subst, sym, inr}
use Rattle.net_steps.specs.Apart.{Asks}
use Rattle.net_steps.proofs.ApartLemmas.{AsksUpto, asks_more, asks_all}
use Rattle.net_steps.proofs.asked.numbers_of.Goals as goal

pub loop-init : goal.loop-init
loop-init c others slots row on = inr on

pub loop-preserved : goal.loop-preserved
loop-preserved c =
    let steps = c.args.steps.now in
    let l = c.loop in
    let two = c.in-Some in
    let number = c.in_ok-number-2.number in
    subst (λ (numbers : List ℕ). AsksUpto steps c.args.truth c.args.slot numbers two.more) (sym c.in_ok-numbers-2.ensures)
    (asks_more steps c.args.truth l.rest two.first two.more c.args.slot number l.numbers.items l.invariant two.ensures c.in_ok-number-2.ensures)

pub returns-in_default : goal.returns-in_default
returns-in_default c =
    let steps = c.args.steps.now in
    let l = c.loop in
    subst (Asks steps c.args.truth c.args.slot) (sym c.in_ok-numbers.ensures)
    (asks_all steps c.args.truth l.rest c.args.slot c.in_ok-number.number l.numbers.items l.invariant c.in_ok-number.ensures)
