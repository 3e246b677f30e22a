use Rattle.std.proofs.Common.{◌≡◌, ◌+◌, List, [], ◌∷◌, ◌++◌, take, sym, subst}
use Rattle.net_steps.specs.declared.drivers.Driver.{Driver}
use Rattle.net_row.proofs.MadeLemmas.{AddsFirst, first_all, first_more, number_within}
use Rattle.net_row.proofs.compile.drivers.Goals as goal

pub driver-requires-clause-number : goal.driver-requires-clause-number
driver-requires-clause-number c = number_within c.args.numbered.now c.requires.numbered c.args.port c.sets-number-items.result.now c.loop-number.number-index c.requires.port c.sets-number-items.ensures c.loop-number-test.true

pub loop-number-preserved : goal.loop-number-preserved
loop-number-preserved c =
    let numbers = c.sets-number-items.result.now in
    let i = c.loop-number.number-index in
    let pushed : c.push.new.self.items ≡ c.loop-number.drivers.items ++ c.in_ok-driver.field-0 ∷ [] = c.in_ok-push.ensures.items in
    subst (λ drivers. AddsFirst c.args.numbered.now c.args.made.now c.driver.new.made (take (i + 1) numbers) drivers) (sym {A = List Driver} pushed)
    (first_more c.args.numbered.now c.args.made.now c.loop-number.made c.driver.new.made numbers i c.loop-number.drivers.items c.in_ok-driver.field-0 c.loop-number-test.true c.loop-number.invariant c.in_ok-driver.ensures)

pub returns : goal.returns
returns c =
    first_all c.args.numbered.now c.requires.numbered c.args.made.now c.loop-number.made c.args.port c.sets-number-items.result.now c.loop-number.number-index c.loop-number.drivers.items c.requires.port c.sets-number-items.ensures c.loop-number-test.false c.loop-number.invariant
